-- The claims on reading the two files. A file is that of one matrix, or of one policy, or it has one place: so what the promise says of it is
-- one thing. What is told shows whether a rule applied; where none did, a buffer is the new bytes before its own later ones.
-- Assumes nothing.
use mathlib.Core.Path.{◌≡◌, refl, sym, ap, ◌∙◌, transport}
use mathlib.Core.List.{List, [], ◌∷◌}
use Prim.Native.Nat.{ℕ, ◌*◌, ◌≤◌}
use native.Mathlib.Omega.{arith}
use lib.ListN.{length, take, drop}
use lib.Seq.{take_at, drop_at}
use Rattle.model.specs.declared.Fault.TheVariants.{AssignmentRoom, Room, FileForm}
use Rattle.model.specs.declared.Refusal.{Refusal}
use Rattle.model.specs.Refusal.{Checked, refusal, Told, told_refusal, tell, held, over}
use Rattle.std.specs.Prelude.{Ok, Err}
use Rattle.model.specs.Policy.{Policy, policy, written}
use Rattle.model.specs.Rules.{room_rules}
use Rattle.model.proofs.Groups.{values_refused, tell_fine, told_fine, told_bad, held_fine, held_bad, group_fine}
use Rattle.model.proofs.Rules.{room_pass}
use Rattle.layout.specs.Files.{MatrixFile, PolicyFile, MatrixFormed, PolicyFormed, Malformed}
use Rattle.layout.specs.Layout.{reach, matrix_layout, policy_layout, policy_sizes, sizes, text, number, digit, digit_of}
use Rattle.layout.proofs.Places.{place_one}
use Rattle.layout.proofs.Files.{matrix_malformed, policy_malformed}
use Rattle.layout.proofs.Contents.{matrix_one, policy_one}
use Rattle.layout.proofs.Cuts.{matrix_whole, policy_whole, cut as cut_short, behind as bytes-behind}
use Rattle.files.specs.Read.{of_matrix, of_policy, read_matrix_told, read_policy_told, matrix_room, policy_room}
use Rattle.files.specs.Read.{MatrixRead, PolicyRead, formed, malformed}
use Rattle.files.proofs.Told.{matrix_apart, policy_apart}
use Rattle.filed.specs.Files.{ReadsMatrix, ReadsPolicy, MatrixFilled, PolicyFilled, ReadKeeps, ReadServes, Placed, Cut, Behind, Examples}
use Rattle.filed.specs.Files.{ReadMatrixUnique, ReadPolicyUnique}

-- ---- a buffer whose first bytes are new

module _ (new x x' : List ℕ) (size : ℕ) (long : length new ≡ size) (e : x' ≡ over new x) where
  pub first_bytes : take size x' ≡ new
  first_bytes = ap (take size) e ∙ take_at new (drop (length new) x) size long

  pub later_bytes : drop size x' ≡ drop size x
  later_bytes = ap (drop size) e ∙ drop_at new (drop (length new) x) size long ∙ ap (λ (z : ℕ). drop z x) long

-- so it is where no rule applies
pub held_over : (c : Checked) (new x x' : List ℕ) → c ≡ Ok tt → x' ≡ held c new x → x' ≡ over new x
held_over c new x x' fine e = e ∙ sym (held_fine c fine new x (length new) refl)

-- and where one does it is the old
pub held_old : (c : Checked) (r : Refusal) (ws new x x' : List ℕ) → told_refusal r ≡ tell c ws → x' ≡ held c new x → x' ≡ x
held_old c r ws new x x' t e = e ∙ sym (held_bad c r (told_bad c r ws t) new x)

-- ---- what the promises say of one file

module _ (s x x' : List ℕ) (t : Told) where
  matrix_told : (n k : ℕ) (m : List ℕ) → MatrixFile n k m s → MatrixRead s x t x'
      → (t ≡ tell (matrix_room m x) (n ∷ k ∷ [])) × (x' ≡ held (matrix_room m x) m x)
  matrix_told n k m f (formed a b l g e q) =
      let (p, o, w) = matrix_one g f in
      (e ∙ (λ i. tell (matrix_room (w i) x) (p i ∷ o i ∷ [])), q ∙ (λ i. held (matrix_room (w i) x) (w i) x))
  matrix_told n k m f (malformed p w e q) = absurd (w.not (n, k, m, f))

  matrix_placed : (p : ℕ) → Malformed MatrixFormed s p → MatrixRead s x t x' → (t ≡ told_refusal (refusal FileForm p)) × (x' ≡ x)
  matrix_placed p w (formed a b l g e q) = absurd (w.not (a, b, l, g))
  matrix_placed p w (malformed o z e q) = (e ∙ ap (λ (i : ℕ). told_refusal (refusal FileForm i)) (place_one z.place w.place), q)

module _ (s x y x' y' : List ℕ) (t : Told) where
  policy_told : (n k : ℕ) (P : Policy) → PolicyFile n k P s → PolicyRead s x y t x' y'
      → (t ≡ tell (policy_room P x y) (n ∷ k ∷ P.domains ∷ []))
      × (x' ≡ held (policy_room P x y) P.assignment x) × (y' ≡ held (policy_room P x y) P.table y)
  policy_told n k P f (formed a b Q g e q z) =
      let (p, o, w) = policy_one g f in (
        e ∙ (λ i. tell (policy_room (w i) x y) (p i ∷ o i ∷ (w i).domains ∷ [])),
        q ∙ (λ i. held (policy_room (w i) x y) (w i).assignment x),
        z ∙ (λ i. held (policy_room (w i) x y) (w i).table y),
      )
  policy_told n k P f (malformed p w e q z) = absurd (w.not (n, k, P, f))

  policy_placed : (p : ℕ) → Malformed PolicyFormed s p → PolicyRead s x y t x' y' → (t ≡ told_refusal (refusal FileForm p)) × (x' ≡ x) × (y' ≡ y)
  policy_placed p w (formed a b Q g e q z) = absurd (w.not (a, b, Q, g))
  policy_placed p w (malformed o v e q z) = (e ∙ ap (λ (i : ℕ). told_refusal (refusal FileForm i)) (place_one v.place w.place), q, z)

-- ---- reading

pub matrix_filled : MatrixFilled
matrix_filled n k s x x' (malformed p w t q) = absurd (values_refused _ _ _ t)
matrix_filled n k s x x' (formed a b m f t q) =
    let (fine, e) = told_fine (matrix_room m x) (n ∷ k ∷ []) (a ∷ b ∷ []) t in
    let p : a ≡ n = cc in
    let o : b ≡ k = cc in
    let size : length m ≡ n * k * n = f.matrix.laid.size ∙ (λ i. p i * o i * p i) in
    let left = held_over _ m x x' fine q in
    let same = first_bytes m x x' (n * k * n) size left in
    (transport (λ i. MatrixFile (p i) (o i) (sym same i) s) f, later_bytes m x x' (n * k * n) size left)

pub policy_filled : PolicyFilled
policy_filled n k d s x y x' y' (malformed p w t q z) = absurd (values_refused _ _ _ t)
policy_filled n k d s x y x' y' (formed a b P f t q z) =
    let (fine, e) = told_fine (policy_room P x y) (n ∷ k ∷ d ∷ []) (a ∷ b ∷ P.domains ∷ []) t in
    let p : a ≡ n = cc in
    let o : b ≡ k = cc in
    let w : P.domains ≡ d = cc in
    let long = f.within.valid.entities ∙ p in
    let size : length P.table ≡ d * k * d = f.within.valid.size ∙ (λ i. w i * o i * w i) in
    let names = held_over _ P.assignment x x' fine q in
    let cells = held_over _ P.table y y' fine z in
    let same : P ≡ written n k d x' y' =
    λ i. policy (w i) (sym (first_bytes P.assignment x x' n long names) i) (sym (first_bytes P.table y y' (d * k * d) size cells) i) in (
      transport (λ i. PolicyFile (p i) (o i) (same i) s) f,
      later_bytes P.assignment x x' n long names,
      later_bytes P.table y y' (d * k * d) size cells,
    )

pub read_keeps : ReadKeeps
read_keeps r s x y x' y' = (matrix, names)
  where
    matrix : ReadsMatrix s x (Err r) x' → x' ≡ x
    matrix (formed n k m f t q) = held_old (matrix_room m x) r (n ∷ k ∷ []) m x x' t q
    matrix (malformed p w t q) = q

    names : ReadsPolicy s x y (Err r) x' y' → (x' ≡ x) × (y' ≡ y)
    names (formed n k P f t q z) =
        let c = policy_room P x y in
        let ws : List ℕ = n ∷ k ∷ P.domains ∷ [] in
        (held_old c r ws P.assignment x x' t q, held_old c r ws P.table y y' t z)
    names (malformed p w t q z) = (q, z)

policy_roomy : (P : Policy) (x y : List ℕ) → length P.assignment ≤ length x → length P.table ≤ length y → policy_room P x y ≡ Ok tt
policy_roomy P x y h l =
    group_fine (room_rules AssignmentRoom (length x) (length P.assignment)) (room_rules Room (length y) (length P.table))
    (room_pass AssignmentRoom (length x) (length P.assignment) h)
    ∙ room_pass Room (length y) (length P.table) l

pub read_serves : ReadServes
read_serves n k s x y x' y' = (
  λ m r f h e. matrix_apart r (Ok (of_matrix n k))
      ((matrix_told s x x' (read_matrix_told r) n k m f e).0 ∙ sym (tell_fine (matrix_room m x) (room_pass Room (length x) (length m) h) (n ∷ k ∷ []))),
  λ P r f h l e. policy_apart r (Ok (of_policy n k P.domains))
      ((policy_told s x y x' y' (read_policy_told r) n k P f e).0 ∙ sym (tell_fine (policy_room P x y) (policy_roomy P x y h l) (n ∷ k ∷ P.domains ∷ []))),
)

pub placed : Placed
placed s x y x' y' p = (
  λ w r e. matrix_apart r (Err (refusal FileForm p)) (matrix_placed s x x' (read_matrix_told r) p w e).0,
  λ w r e. policy_apart r (Err (refusal FileForm p)) (policy_placed s x y x' y' (read_policy_told r) p w e).0,
)

pub cut : Cut
cut s p h = (λ f. cut_short MatrixFormed matrix_whole s f p h, λ f. cut_short PolicyFormed policy_whole s f p h)

pub behind : Behind
behind s t h = (λ f. bytes-behind MatrixFormed matrix_whole s f t h, λ f. bytes-behind PolicyFormed policy_whole s f t h)

pub examples : Examples
unfolding reach matrix_layout policy_layout policy_sizes sizes text number digit digit_of
examples t = (
  matrix_malformed (77 ∷ 88 ∷ 54 ∷ 53 ∷ t) 3 refl (omega arith),
  policy_malformed (80 ∷ 68 ∷ 48 ∷ 51 ∷ 49 ∷ 48 ∷ 48 ∷ t) 6 refl (omega arith),
)

-- ---- two answers that meet a promise are equal

pub matrix_read_one : (s x x' x'' : List ℕ) (t a : Told) → MatrixRead s x t x' → MatrixRead s x a x'' → (t ≡ a) × (x' ≡ x'')
matrix_read_one s x x' x'' t a (formed n k m f e l) b = let (u, v) = matrix_told s x x'' a n k m f b in (e ∙ sym u, l ∙ sym v)
matrix_read_one s x x' x'' t a (malformed p w e l) b = let (u, v) = matrix_placed s x x'' a p w b in (e ∙ sym u, l ∙ sym v)

pub read_matrix_unique : ReadMatrixUnique
read_matrix_unique s x x' x'' r q b c = let (e, l) = matrix_read_one s x x' x'' (read_matrix_told r) (read_matrix_told q) b c in (matrix_apart r q e, l)

pub policy_read_one : (s x y x' y' x'' y'' : List ℕ) (t a : Told) → PolicyRead s x y t x' y' → PolicyRead s x y a x'' y'' → (t ≡ a) × (x' ≡ x'') × (y' ≡ y'')
policy_read_one s x y x' y' x'' y'' t a (formed n k P f e l o) b =
    let (u, v, w) = policy_told s x y x'' y'' a n k P f b in
    (e ∙ sym u, l ∙ sym v, o ∙ sym w)
policy_read_one s x y x' y' x'' y'' t a (malformed p z e l o) b =
    let (u, v, w) = policy_placed s x y x'' y'' a p z b in
    (e ∙ sym u, l ∙ sym v, o ∙ sym w)

pub read_policy_unique : ReadPolicyUnique
read_policy_unique s x y x' y' x'' y'' r q b c =
    let (e, l, o) = policy_read_one s x y x' y' x'' y'' (read_policy_told r) (read_policy_told q) b c in
    (policy_apart r q e, l, o)
