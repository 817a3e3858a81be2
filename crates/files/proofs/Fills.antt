-- The exits of the two reads. Where the check stopped inside the file, the file is malformed and that is its place. Past its end the file is
-- that of a matrix, or of a policy, with the numbers that its first line has; and what is filled from it is the rest. Assumes nothing.
use mathlib.Core.Path.{◌≡◌, refl, sym, ap, ◌∙◌, subst}
use mathlib.Core.List.{List, [], ◌∷◌}
use Prim.Native.Nat.{ℕ, ◌+◌, ◌*◌, ◌≤◌}
use native.Mathlib.Omega.{arith}
use lib.ListN.{length}
use lib.Seq.{sets}
use Rattle.model.specs.declared.Fault.TheVariants.{AssignmentRoom, Room, FileForm}
use Rattle.model.specs.declared.Refusal.{Refusal}
use Rattle.std.specs.Prelude.{Result, Ok, Err, MatchResult, IfOk, IfErr}
use Rattle.model.specs.Below.{tab}
use Rattle.model.specs.Policy.{Policy}
use Rattle.model.specs.Refusal.{checked, refusal, values, told_refusal, over}
use Rattle.model.specs.Rules.{room_rules}
use Rattle.model.proofs.Groups.{group_fine, group_bad, tell_fine, tell_bad, held_fine, held_bad}
use Rattle.model.proofs.Rules.{room_fine}
use Rattle.layout.specs.Text.{each}
use Rattle.layout.specs.Files.{MatrixFile, PolicyFile}
use Rattle.layout.specs.Layout.{reach, matrix_layout, policy_layout, digit_at, number_at, row_at}
use Rattle.layout.proofs.Files.{matrix_formed, matrix_malformed, policy_formed, policy_malformed}
use Rattle.layout.proofs.Contents.{Short, short, MatrixSays, matrix_says, PolicySays, policy_says}
use Rattle.layout.proofs.Puts.{put_whole}
use Rattle.readers.specs.Pieces.{stopped}
use Rattle.places.specs.declared.MatrixSizes.{MatrixSizes}
use Rattle.places.specs.declared.PolicySizes.{PolicySizes}
use Rattle.files.specs.Read.{MatrixRead, matrix_room, policy_room, PolicyRead}

-- what was filled from the start on
filled : (new x x' : List ℕ) → length new ≤ length x → x' ≡ sets x 0 new → x' ≡ over new x
filled new x x' h e = e ∙ put_whole new x h

-- ---- what the form of a file shows

-- what was read, or the refusal of a malformed file
abbrev pub Formed : {A : Type 0} → Result A ℕ → Result A Refusal → Type 0
Formed q r = MatchResult q (λ x. r ≡ Ok x) (λ p. r ≡ Err (refusal FileForm p))

ok_not_err : {A : Type 0} (x : A) (r : Refusal) → ◌≡◌ {A = Result A Refusal} (Ok x) (Err r) → ⊥
ok_not_err x r e = let z : ◌≡◌ {A = ℕ} 0 1 = cc in omega arith

-- ---- a matrix

pub matrix_bad : (s x : List ℕ) (q : Result MatrixSizes ℕ) (r : Refusal) → stopped (length s) q ≡ reach matrix_layout s → IfErr q (λ p. p ≤ length s)
    → Formed q (Err r) → MatrixRead s x (told_refusal r) x
matrix_bad s x (Ok z) r e h f = absurd (ok_not_err z r (sym f))
matrix_bad s x (Err p) r e h f = MatrixRead.malformed p (matrix_malformed s p e h) (let g : r ≡ refusal FileForm p = cc in ap told_refusal g) refl

-- the check went past the end, and n and k are the numbers that the file has
pub record MatrixFits (s : List ℕ) (n k : ℕ) : Type 0 where
  pub past : length s + 1 ≡ reach matrix_layout s
  pub entities : n ≡ number_at s 2
  pub rights : k ≡ digit_at s 4

pub matrix_fits : (s : List ℕ) (q : Result MatrixSizes ℕ) (z : MatrixSizes) → stopped (length s) q ≡ reach matrix_layout s
    → IfOk q (λ y. (y.n ≡ number_at s 2) × (y.k ≡ digit_at s 4)) → Formed q (Ok z) → MatrixFits s z.n z.k
matrix_fits s (Ok y) z e h f = let g : z ≡ y = cc in rw g (record { past = e; entities = h.0; rights = h.1 })
matrix_fits s (Err p) z e h f = absurd (ok_not_err z (refusal FileForm p) f)

module _ {s : List ℕ} {n k : ℕ} (F : MatrixFits s n k) where
  here : (m : List ℕ) × MatrixFile n k m s
  here =
      let (n', k', m, f) = matrix_formed s (length s + 1) F.past (omega arith) in
      let w = matrix_says f in (
        m,
        subst (λ (z : ℕ). MatrixFile n z m s) (sym (F.rights ∙ w.rights)) (subst (λ (z : ℕ). MatrixFile z k' m s) (sym (F.entities ∙ w.entities)) f),
      )

  -- the file that was read
  matrix_here : MatrixFile n k here.0 s
  matrix_here = here.1

  pub matrix_limits : Short n k
  matrix_limits = short matrix_here.matrix.laid.entities matrix_here.matrix.laid.rights

  says : MatrixSays n k here.0 s
  says = matrix_says matrix_here

  pub matrix_long : length s ≡ 9 + n * (k * n + 5)
  matrix_long = says.long

  room : (x : List ℕ) → matrix_room here.0 x ≡ checked (room_rules Room (length x) (n * (k * n)))
  room x = ap (λ (z : ℕ). checked (room_rules Room (length x) z)) says.size

  pub matrix_short : (x : List ℕ) (r : Refusal) → checked (room_rules Room (length x) (n * (k * n))) ≡ Err r → MatrixRead s x (told_refusal r) x
  matrix_short x r q =
      let c = matrix_room here.0 x in
      MatrixRead.formed n k here.0 matrix_here (tell_bad c r (room x ∙ q) (n ∷ k ∷ [])) (held_bad c r (room x ∙ q) here.0 x)

  pub matrix_filled : (x x' : List ℕ) → checked (room_rules Room (length x) (n * (k * n))) ≡ Ok tt → x' ≡ sets x 0 (each n (row_at s 6 (k * n)))
      → MatrixRead s x (values (n ∷ k ∷ [])) x'
  matrix_filled x x' q f =
      let c = matrix_room here.0 x in
      let m = here.0 in
      let enough = room_fine Room (length x) (n * (k * n)) q in
      let g = filled m x x' (omega (arith, enough, says.size)) (f ∙ ap (sets x 0) says.matrix) in
      MatrixRead.formed n k m matrix_here (tell_fine c (room x ∙ q) (n ∷ k ∷ [])) (g ∙ held_fine c (room x ∙ q) m x (length m) refl)

-- ---- a policy

pub policy_bad : (s x y : List ℕ) (q : Result PolicySizes ℕ) (r : Refusal) → stopped (length s) q ≡ reach policy_layout s → IfErr q (λ p. p ≤ length s)
    → Formed q (Err r) → PolicyRead s x y (told_refusal r) x y
policy_bad s x y (Ok z) r e h f = absurd (ok_not_err z r (sym f))
policy_bad s x y (Err p) r e h f =
    PolicyRead.malformed p (policy_malformed s p e h) (let g : r ≡ refusal FileForm p = cc in ap told_refusal g) refl refl

-- the same of a policy's file
pub record PolicyFits (s : List ℕ) (n k d : ℕ) : Type 0 where
  pub past : length s + 1 ≡ reach policy_layout s
  pub entities : n ≡ number_at s 2
  pub rights : k ≡ digit_at s 4
  pub domains : d ≡ number_at s 5

pub policy_fits : (s : List ℕ) (q : Result PolicySizes ℕ) (z : PolicySizes) → stopped (length s) q ≡ reach policy_layout s
    → IfOk q (λ y. (y.n ≡ number_at s 2) × (y.k ≡ digit_at s 4) × (y.d ≡ number_at s 5)) → Formed q (Ok z) → PolicyFits s z.n z.k z.d
policy_fits s (Ok y) z e h f = let g : z ≡ y = cc in rw g (record { past = e; entities = h.0; rights = h.1; domains = h.2 })
policy_fits s (Err p) z e h f = absurd (ok_not_err z (refusal FileForm p) f)

module _ {s : List ℕ} {n k d : ℕ} (F : PolicyFits s n k d) where
  there : (P : Policy) × PolicyFile n k P s × (P.domains ≡ d)
  there =
      let (n', k', P, f) = policy_formed s (length s + 1) F.past (omega arith) in
      let w = policy_says f in (
        P,
        subst (λ (z : ℕ). PolicyFile n z P s) (sym (F.rights ∙ w.rights)) (subst (λ (z : ℕ). PolicyFile z k' P s) (sym (F.entities ∙ w.entities)) f),
        sym (F.domains ∙ w.domains),
      )

  P : Policy
  P = there.0

  -- the file that was read
  policy_here : PolicyFile n k P s
  unfolding P
  policy_here = there.1

  domains_are : P.domains ≡ d
  unfolding P
  domains_are = there.2

  pub policy_limits : Short d k
  policy_limits = short (omega (arith, domains_are, policy_here.within.few)) policy_here.within.rights

  pub policy_entities : n ≤ 64
  policy_entities = policy_here.within.entities

  said : PolicySays n k P s
  said = policy_says policy_here

  pub policy_long : length s ≡ 14 + n * 2 + d * (k * d + 5)
  policy_long = said.long ∙ ap (λ (z : ℕ). 14 + n * 2 + z * (k * z + 5)) domains_are

  table_size_lem : length P.table ≡ d * (k * d)
  table_size_lem = said.size ∙ ap (λ (z : ℕ). z * (k * z)) domains_are

  module _ (x y : List ℕ) where
    room_x : checked (room_rules AssignmentRoom (length x) (length P.assignment)) ≡ checked (room_rules AssignmentRoom (length x) n)
    room_x = ap (λ (z : ℕ). checked (room_rules AssignmentRoom (length x) z)) policy_here.within.valid.entities

    room_y : checked (room_rules Room (length y) (length P.table)) ≡ checked (room_rules Room (length y) (d * (k * d)))
    room_y = ap (λ (z : ℕ). checked (room_rules Room (length y) z)) table_size_lem

    told_domains : n ∷ k ∷ P.domains ∷ [] ≡ n ∷ k ∷ d ∷ []
    told_domains = ap (λ (z : ℕ). n ∷ k ∷ z ∷ []) domains_are

    refused_here : (r : Refusal) → policy_room P x y ≡ Err r → PolicyRead s x y (told_refusal r) x y
    refused_here r q =
        let c = policy_room P x y in
        PolicyRead.formed n k P policy_here (tell_bad c r q (n ∷ k ∷ P.domains ∷ [])) (held_bad c r q P.assignment x) (held_bad c r q P.table y)

    pub names_short : (r : Refusal) → checked (room_rules AssignmentRoom (length x) n) ≡ Err r → PolicyRead s x y (told_refusal r) x y
    names_short r q = refused_here r (group_bad (room_rules AssignmentRoom (length x) (length P.assignment)) _ r (room_x ∙ q))

    module _ (roomy : checked (room_rules AssignmentRoom (length x) n) ≡ Ok tt) where
      both_rooms : policy_room P x y ≡ checked (room_rules Room (length y) (d * (k * d)))
      both_rooms = group_fine (room_rules AssignmentRoom (length x) (length P.assignment)) _ (room_x ∙ roomy) ∙ room_y

      pub cells_short : (r : Refusal) → checked (room_rules Room (length y) (d * (k * d))) ≡ Err r → PolicyRead s x y (told_refusal r) x y
      cells_short r q = refused_here r (both_rooms ∙ q)

      pub policy_filled : (x' y' : List ℕ) → checked (room_rules Room (length y) (d * (k * d))) ≡ Ok tt
          → x' ≡ sets x 0 (tab n (λ u. number_at s (10 + u * 2))) → y' ≡ sets y 0 (each d (row_at s (11 + n * 2) (k * d)))
          → PolicyRead s x y (values (n ∷ k ∷ d ∷ [])) x' y'
      policy_filled x' y' q f g =
          let c = policy_room P x y in
          let fine : c ≡ Ok tt = both_rooms ∙ q in
          let wide = room_fine AssignmentRoom (length x) n roomy in
          let names = filled P.assignment x x' (omega (arith, wide, policy_here.within.valid.entities)) (f ∙ ap (sets x 0) said.assignment) in
          let rows : each d (row_at s (11 + n * 2) (k * d)) ≡ P.table =
          ap (λ (z : ℕ). each z (row_at s (11 + n * 2) (k * z))) (sym domains_are) ∙ said.table in
          let cells = filled P.table y y' (omega (arith, room_fine Room (length y) (d * (k * d)) q, table_size_lem)) (g ∙ ap (sets y 0) rows) in
          PolicyRead.formed n k P policy_here (ap values (sym told_domains) ∙ tell_fine c fine (n ∷ k ∷ P.domains ∷ []))
          (names ∙ held_fine c fine P.assignment x (length P.assignment) refl) (cells ∙ held_fine c fine P.table y (length P.table) refl)
