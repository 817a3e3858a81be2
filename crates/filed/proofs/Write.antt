-- The claims on writing the two files, and on the way there and back. Where no rule applies the matrix or the policy is within the limits, and
-- the first bytes are its file, which is that of no other; so reading gives it back, and the file that was read is written again.
-- Assumes nothing.
use mathlib.Core.Path.{◌≡◌, sym, ap, ◌∙◌, subst}
use mathlib.Core.List.{List, [], ◌∷◌, ◌++◌}
use Prim.Native.Nat.{ℕ, ◌*◌, ◌≤◌}
use native.Mathlib.Omega.{arith}
use lib.ListN.{length, take}
use Rattle.files.specs.Read.{ReadMatrix, ReadPolicy}
use Rattle.model.specs.declared.Fault.TheVariants.{Room}
use Rattle.model.specs.declared.Refusal.{Refusal}
use Rattle.std.specs.Prelude.{Ok, Err}
use Rattle.model.specs.Policy.{Policy, written, domain_of}
use Rattle.model.specs.Refusal.{Rule, Told, checked, values, told_refusal, single, over}
use Rattle.model.specs.Rules.{size_rules, matrix_rules, assignment_rules, table_rules, room_rules}
use Rattle.model.proofs.Groups.{told_apart, single_one, tell_fine, told_fine, group_fine}
use Rattle.model.proofs.Rules.{sizes_pass, matrix_pass, assignment_pass, table_pass, room_pass}
use Rattle.layout.specs.Text.{matrix_text, policy_text}
use Rattle.layout.specs.Files.{MatrixFile, PolicyFile}
use Rattle.layout.proofs.Contents.{matrix_one, policy_one}
use Rattle.writable.specs.Rules.{matrix_write_rules, policy_write_rules}
use Rattle.writable.proofs.Rules.{matrix_writable, policy_writable}
use Rattle.files.specs.Write.{wrote_told, Written, Wrote}
use Rattle.filed.specs.Files.{ReadsMatrix, ReadsPolicy, WritesMatrix, WritesPolicy, FileWritten, WriteKeeps, WriteServes}
use Rattle.filed.specs.Files.{WrittenRead, ReadWritten, WriteUnique}
use Rattle.filed.proofs.Read.{first_bytes, later_bytes, held_over, held_old, matrix_filled, policy_filled, read_serves}

-- ---- writing

module _ (rules : List Rule) (new x x' : List ℕ) where
  -- no rule applied, and what was written is the text
  written_told : (size : ℕ) → Written rules new x (values (size ∷ [])) x' → (checked rules ≡ Ok tt) × (length new ≡ size) × (x' ≡ over new x)
  written_told size w =
      let (fine, e) = told_fine (checked rules) (size ∷ []) (length new ∷ []) w.told in
      let long : length new ≡ size = cc in
      (fine, long, held_over (checked rules) new x x' fine w.left)

  written_kept : (r : Refusal) → Written rules new x (told_refusal r) x' → x' ≡ x
  written_kept r w = held_old (checked rules) r (length new ∷ []) new x x' w.told w.left

  written_length : (r : Wrote) (s : List ℕ) → checked rules ≡ Ok tt → s ≡ new → Written rules new x (wrote_told r) x' → r ≡ Ok (length s)
  written_length r s fine e w = told_apart single single_one r (Ok (length s))
      (w.told ∙ sym (tell_fine (checked rules) fine (length new ∷ [])) ∙ ap (λ (z : List ℕ). values (length z ∷ [])) (sym e))

pub written_one : {rules : List Rule} {text x x' x'' : List ℕ} {t a : Told} → Written rules text x t x' → Written rules text x a x'' → (t ≡ a) × (x' ≡ x'')
written_one w z = (w.told ∙ sym z.told, w.left ∙ sym z.left)

pub file_written : FileWritten
file_written n k size x x' = (
  λ m w.
      let (fine, long, e) = written_told (matrix_write_rules n k m (length x)) (matrix_text n k m) x x' size w in (
        record { matrix = matrix_writable n k m (length x) fine; text = first_bytes (matrix_text n k m) x x' size long e },
        later_bytes (matrix_text n k m) x x' size long e,
      ),
  λ P w.
      let (fine, long, e) = written_told (policy_write_rules n k P (length x)) (policy_text n k P) x x' size w in (
        record { within = policy_writable n k P (length x) fine; text = first_bytes (policy_text n k P) x x' size long e },
        later_bytes (policy_text n k P) x x' size long e,
      ),
)

pub write_keeps : WriteKeeps
write_keeps n k x x' r = (
  λ m w. written_kept (matrix_write_rules n k m (length x)) (matrix_text n k m) x x' r w,
  λ P w. written_kept (policy_write_rules n k P (length x)) (policy_text n k P) x x' r w,
)

matrix_served : (n k : ℕ) (m s : List ℕ) (room : ℕ) → MatrixFile n k m s → length s ≤ room → checked (matrix_write_rules n k m room) ≡ Ok tt
unfolding matrix_write_rules
matrix_served n k m s room f h =
    let l = f.matrix.laid in
    let last = room_rules Room room (length (matrix_text n k m)) in
    group_fine (size_rules n k 0) (matrix_rules n k m ++ last) (sizes_pass n k 0 l.entities l.right l.rights (omega arith))
    ∙ group_fine (matrix_rules n k m) last (matrix_pass n k m (record { long = l.size; below = f.matrix.below }))
    ∙ room_pass Room room (length (matrix_text n k m)) (omega (arith, ap length f.text))

policy_served : (n k : ℕ) (P : Policy) (s : List ℕ) (room : ℕ) → PolicyFile n k P s → length s ≤ room → checked (policy_write_rules n k P room) ≡ Ok tt
unfolding policy_write_rules domain_of
policy_served n k P s room f h =
    let d = P.domains in
    let w = f.within in
    let W = w.valid in
    let last = room_rules Room room (length (policy_text n k P)) in
    let later = table_rules k d P.table ++ last in
    group_fine (size_rules n k d) (assignment_rules n d P.assignment ++ later) (sizes_pass n k d w.entities w.right w.rights w.few)
    ∙ group_fine (assignment_rules n d P.assignment) later
    (assignment_pass n d P.assignment (record { long = W.entities; below = λ i b. W.below i (omega (arith, W.entities)) }))
    ∙ group_fine (table_rules k d P.table) last (table_pass k d P.table (record { long = W.size; below = W.cells }))
    ∙ room_pass Room room (length (policy_text n k P)) (omega (arith, ap length f.text))

pub write_serves : WriteServes
write_serves n k s x x' r h = (
  λ m f w. written_length (matrix_write_rules n k m (length x)) (matrix_text n k m) x x' r s (matrix_served n k m s (length x) f h) f.text w,
  λ P f w. written_length (policy_write_rules n k P (length x)) (policy_text n k P) x x' r s (policy_served n k P s (length x) f h) f.text w,
)

-- ---- there and back

pub written_read : WrittenRead
written_read n k size f f' x y x' y' = (
  λ m r w h e.
      let g = ((file_written n k size f f').0 m w).0 in
      let p = (read_serves n k (take size f') x y x' y').0 m r g h e in
      let z = (matrix_filled n k (take size f') x x' (subst (λ (a : ReadMatrix). ReadsMatrix (take size f') x a x') p e)).0 in
      (p, ap (λ (i : ℕ). take i x') g.matrix.laid.size ∙ (matrix_one z g).2),
  λ P r w h l e.
      let g = ((file_written n k size f f').1 P w).0 in
      let p = (read_serves n k (take size f') x y x' y').1 P r g h l e in
      let z = (policy_filled n k P.domains (take size f') x y x' y' (subst (λ (a : ReadPolicy). ReadsPolicy (take size f') x y a x' y') p e)).0 in
      (p, (policy_one z g).2),
)

pub read_written : ReadWritten
read_written n k d s x y x' y' f f' r h = (
  λ e w.
      let m : List ℕ = take (n * k * n) x' in
      let g = (matrix_filled n k s x x' e).0 in
      let p = (write_serves n k s f f' r h).0 m g w in
      (p, ((file_written n k (length s) f f').0 m (subst (λ (v : Wrote). WritesMatrix n k m f v f') p w)).0.text ∙ sym g.text),
  λ e w.
      let P : Policy = written n k d x' y' in
      let g = (policy_filled n k d s x y x' y' e).0 in
      let p = (write_serves n k s f f' r h).1 P g w in
      (p, ((file_written n k (length s) f f').1 P (subst (λ (v : Wrote). WritesPolicy n k P f v f') p w)).0.text ∙ sym g.text),
)

-- ---- two answers that meet a promise are equal

pub write_unique : WriteUnique
write_unique rules text x x' x'' r q w z = let (e, l) = written_one w z in (told_apart single single_one r q e, l)
