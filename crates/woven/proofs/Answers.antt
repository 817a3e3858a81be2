-- The answer to a matrix that is within the limits. Over buffers with room for every policy no rule of the build can apply but 4. Where 4 does
-- not, the built policy is within the limits, and its file is the answer; where it does, its place is that of a cell. Assumes nothing.
use mathlib.Core.Path.{◌≡◌, refl, sym, ap, ◌∙◌, subst}
use mathlib.Core.List.{List, [], ◌∷◌, ◌++◌}
use Prim.Native.Nat.{ℕ, ◌*◌, ◌≤◌, ◌<◌}
use native.Mathlib.Omega.{arith}
use borrow.Author.Tests.{ltb-true}
use lib.Dec.{eqb}
use lib.ListN.{length, take}
use Rattle.model.specs.declared.Fault.TheVariants.{Unlogged, AssignmentRoom, Room, FileForm}
use Rattle.model.specs.declared.Refusal.{Refusal}
use Rattle.model.specs.Refusal.{Checked, Rule, number_of, checked, refusal, cell_refusal, told_refusal, over}
use Rattle.std.specs.Prelude.{Ok, Err}
use Rattle.model.specs.Matrix.{cell, Holds}
use Rattle.model.specs.Policy.{written, Within}
use Rattle.model.specs.Rules.{lowest, lowest_rule, size_rules, matrix_rules, full_rules, whole_rules, room_rules}
use Rattle.model.proofs.Built.{built_few, built_valid}
use Rattle.model.proofs.Groups.{fine_not_bad, group_fine, group_bad, gives_bad, told_fine, told_bad, refusal_told}
use Rattle.model.proofs.Places.{Small, small}
use Rattle.model.proofs.Rules.{lowest_some, sizes_pass, matrix_pass, room_pass, whole_fine, whole_full}
use Rattle.layout.specs.Text.{policy_text}
use Rattle.layout.specs.Files.{MatrixFile, MatrixFormed, Malformed}
use Rattle.layout.proofs.Contents.{matrix_short, policy_short}
use Rattle.layout.proofs.Faults.{place_short}
use Rattle.build.specs.Build.{Built, built_from, table_size, build_rules, build_told, Builds}
use Rattle.files.specs.Read.{read_matrix_told, matrix_room, MatrixRead, formed, malformed, ReadMatrix, of_matrix}
use Rattle.build.proofs.Written.{policy_written}
use Rattle.filed.proofs.Read.{matrix_filled}
use Rattle.woven.specs.Weave.{refusal_text, answer_text, longest, Woven}

-- the longest file of a matrix
pub formed-short : (s : List ℕ) → MatrixFormed s → length s ≤ 33097
formed-short s (n, k, m, f) = matrix_short f

-- a text put down is also one that it equals
pub put_same : {size : ℕ} {t t' x' : List ℕ} (x : List ℕ) → t ≡ t' → (size ≡ length t) × (x' ≡ over t x) → (size ≡ length t') × (x' ≡ over t' x)
put_same {size} {x' = x'} x e = subst (λ (z : List ℕ). (size ≡ length z) × (x' ≡ over z x)) e

-- a refusal whose number has two digits and whose place has five
pub record Shown (r : Refusal) : Type 0 where
  pub number : number_of r.fault < 100
  pub place : r.place < 100000

module _ {n k : ℕ} {m : List ℕ} (f : Holds n k 3 m) where
  -- the first rules do not apply
  pub whole_four : checked (whole_rules n k m) ≡ checked (full_rules n k m)
  unfolding whole_rules
  whole_four =
      let l = f.laid in
      group_fine (size_rules n k 0) (matrix_rules n k m ++ full_rules n k m) (sizes_pass n k 0 l.entities l.right l.rights (omega arith))
      ∙ group_fine (matrix_rules n k m) (full_rules n k m) (matrix_pass n k m (record { long = l.size; below = f.below }))

  few : (built_from n k m).domains ≤ 64
  few = omega (arith, built_few n k (cell k n m), f.laid.entities)

  -- nor do the last
  only-four : (x y : ℕ) → 64 ≤ x → 32768 ≤ y → checked (build_rules n k m x y) ≡ checked (full_rules n k m)
  unfolding build_rules
  only-four x y h l = go (checked (full_rules n k m)) refl
    where
      rooms : List Rule
      rooms = room_rules AssignmentRoom x n ++ room_rules Room y (table_size n k m)

      roomy : checked rooms ≡ Ok tt
      roomy =
          group_fine (room_rules AssignmentRoom x n) (room_rules Room y (table_size n k m)) (room_pass AssignmentRoom x n (omega (arith, f.laid.entities)))
          ∙ room_pass Room y (table_size n k m) (omega (arith, (small few f.laid.rights few).cells))

      go : (c : Checked) → checked (full_rules n k m) ≡ c → checked (whole_rules n k m ++ rooms) ≡ checked (full_rules n k m)
      go (Ok _) e = group_fine (whole_rules n k m) rooms (whole_four ∙ e) ∙ roomy ∙ sym e
      go (Err r) e = group_bad (whole_rules n k m) rooms r (whole_four ∙ e) ∙ sym e

  -- ---- 4 does not apply

  module _ (fine : checked (full_rules n k m) ≡ Ok tt) where
    pub built-within : Within n k (built_from n k m)
    built-within = record {
      entities = f.laid.entities;
      right = f.laid.right;
      rights = f.laid.rights;
      few = few;
      valid = built_valid n k (cell k n m) (whole_full (whole_fine n k m (whole_four ∙ fine)));
    }

    pub answer-built : answer_text n k m ≡ policy_text n k (built_from n k m)
    unfolding answer_text
    answer-built = rw fine

  -- ---- 4 applies

  module _ (r : Refusal) (bad : checked (full_rules n k m) ≡ Err r) where
    pub answer-refused : answer_text n k m ≡ refusal_text r
    unfolding answer_text
    answer-refused = rw bad

    -- at a cell
    pub four_at : (i : ℕ) × (i < length m) × (r ≡ cell_refusal Unlogged k n i)
    unfolding full_rules lowest_rule
    four_at = gives_bad (λ (q : Refusal). (i : ℕ) × (i < length m) × (q ≡ cell_refusal Unlogged k n i)) (full_rules n k m)
        (λ e. (lowest (eqb 2) m, ltb-true (lowest (eqb 2) m) (length m) (sym (lowest_some (eqb 2) m) ∙ e), refl), λ _. tt) r bad

    pub four-shown : Shown r
    unfolding cell_refusal
    four-shown =
        let (i, h, e) = four_at in
        let l = f.laid in
        subst Shown (sym e) (record { number = omega arith; place = omega (arith, h, l.size, (small l.entities l.rights l.entities).cells) })

-- ---- what the build answered, over buffers with room for every policy, and left in them

-- a number of domains: what stands in the buffers is within the limits, and its file is the answer
pub record Stands (n k : ℕ) (m : List ℕ) (d : ℕ) (s t : List ℕ) : Type 0 where
  pub small : Small d k d
  pub names : n ≡ length (take n s)
  pub size : d * k * d ≡ length (take (d * k * d) t)
  pub within : Within n k (written n k d s t)
  pub enough : length (policy_text n k (written n k d s t)) ≤ longest
  pub answer : policy_text n k (written n k d s t) ≡ answer_text n k m

module _ {n k : ℕ} {m : List ℕ} (f : Holds n k 3 m) (s t s' t' : List ℕ) (hs : 64 ≤ length s) (ht : 32768 ≤ length t) where
  pub built-stands : {r : Built} (d : ℕ) → r ≡ Ok d → Builds n k m s t r s' t' → Stands n k m d s' t'
  unfolding build_told
  built-stands d q w =
      let b = subst (λ (r : Built). Builds n k m s t r s' t') q w in
      let P = built_from n k m in
      let (passed, _) = told_fine (checked (build_rules n k m (length s) (length t))) (d ∷ []) (P.domains ∷ []) b.told in
      let fine = sym (only-four f (length s) (length t) hs ht) ∙ passed in
      let same = sym (policy_written n k m s t s' t' d b) in
      let z = subst (Within n k) same (built-within f fine) in
      record {
        small = small z.few z.rights z.few;
        names = sym z.valid.entities;
        size = sym z.valid.size;
        within = z;
        enough = policy_short (record { within = z; text = refl });
        answer = sym (answer-built f fine ∙ ap (policy_text n k) same);
      }

  pub built-refused : {a : Built} (r : Refusal) → a ≡ Err r → Builds n k m s t a s' t' → Shown r × (refusal_text r ≡ answer_text n k m)
  unfolding build_told
  built-refused r q w =
      let b = subst (λ (a : Built). Builds n k m s t a s' t') q w in
      let bad = sym (only-four f (length s) (length t) hs ht) ∙ told_bad (checked (build_rules n k m (length s) (length t))) r _ b.told in
      (four-shown f r bad, sym (answer-refused f r bad))

-- ---- what the read answered, over a buffer with room for every matrix, and left in it

module _ (s x x' : List ℕ) where
  -- a matrix: it stands in the buffer
  pub read-file : {a : ReadMatrix} (n k : ℕ) → a ≡ Ok (of_matrix n k) → MatrixRead s x (read_matrix_told a) x' → MatrixFile n k (take (n * k * n) x') s
  read-file n k q w = (matrix_filled n k s x x' (subst (λ (a : ReadMatrix). MatrixRead s x (read_matrix_told a) x') q w)).0

  -- a refusal: it is 12
  pub read-refused : {a : ReadMatrix} (r : Refusal) → a ≡ Err r → 32768 ≤ length x → MatrixRead s x (read_matrix_told a) x'
      → Shown r × Woven s (refusal_text r)
  unfolding refusal
  read-refused r q h w = go (subst (λ (a : ReadMatrix). MatrixRead s x (read_matrix_told a) x') q w)
    where
      twelve : (p : ℕ) → Malformed MatrixFormed s p → r ≡ refusal FileForm p → Shown r × Woven s (refusal_text r)
      twelve p m e = (
        subst Shown (sym e) (record { number = omega arith; place = omega (arith, place_short MatrixFormed 33097 formed-short m.place) }),
        Woven.malformed p m (ap refusal_text e),
      )

      go : MatrixRead s x (told_refusal r) x' → Shown r × Woven s (refusal_text r)
      go (formed n k m f t _) =
          let l = f.matrix.laid in
          let roomy = room_pass Room (length x) (length m) (omega (arith, l.size, (small l.entities l.rights l.entities).cells)) in
          absurd (fine_not_bad (matrix_room m x) r roomy (told_bad (matrix_room m x) r (n ∷ k ∷ []) t))
      go (malformed p m t _) = twelve p m (refusal_told r (refusal FileForm p) t)
