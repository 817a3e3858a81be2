-- The exits of the judge: which rule refuses, what a matrix and a policy that pass have, and which verdict is given. Assumes nothing.
use mathlib.Core.Path.{◌≡◌, sym, ap, ◌∙◌}
use mathlib.Core.List.{List, [], ◌∷◌, ◌++◌}
use Prim.Native.Nat.{ℕ, ◌*◌, ◌<◌}
use native.Mathlib.Omega.{arith}
use borrow.Author.Tests.{lt-ltb, le-ltb}
use lib.ListN.{length, get_or}
use Rattle.std.specs.Prelude.{Ok, Err}
use Rattle.model.specs.declared.Refusal.{Refusal}
use Rattle.model.specs.Matrix.{Holds}
use Rattle.model.specs.Policy.{Policy, domain_of, Valid, Within}
use Rattle.model.specs.Refusal.{Checked, Rule, checked, values, told_refusal, tell}
use Rattle.model.specs.Rules.{size_rules, matrix_rules, assignment_rules, table_rules}
use Rattle.model.proofs.Groups.{group_fine, group_bad, groups_fine}
use Rattle.model.proofs.Rules.{sizes_fine, matrix_fine, assignment_fine, table_fine}
use Rattle.conflicts.specs.Conflict.{conflict}
use Rattle.judge.specs.Judge.{judge_rules, verdict, judge_told}

-- ---- the rules, group by group

module _ (n k : ℕ) (m : List ℕ) (P : Policy) where
  from5 : List Rule
  from5 = assignment_rules n P.domains P.assignment ++ table_rules k P.domains P.table

  pub sizes_bad : (r : Refusal) → checked (size_rules n k P.domains) ≡ Err r → Err r ≡ checked (judge_rules n k m P)
  unfolding judge_rules
  sizes_bad r e = sym (group_bad (size_rules n k P.domains) _ r e)

  module _ (sized : checked (size_rules n k P.domains) ≡ Ok tt) where
    after1 : checked (judge_rules n k m P) ≡ checked (matrix_rules n k m ++ from5)
    unfolding judge_rules from5
    after1 = group_fine (size_rules n k P.domains) (matrix_rules n k m ++ from5) sized

    pub matrix_bad : (r : Refusal) → checked (matrix_rules n k m) ≡ Err r → Err r ≡ checked (judge_rules n k m P)
    matrix_bad r e = sym (after1 ∙ group_bad (matrix_rules n k m) from5 r e)

    module _ (cells : checked (matrix_rules n k m) ≡ Ok tt) where
      after3 : checked (judge_rules n k m P) ≡ checked from5
      after3 = after1 ∙ group_fine (matrix_rules n k m) from5 cells

      pub assignment_bad : (r : Refusal) → checked (assignment_rules n P.domains P.assignment) ≡ Err r → Err r ≡ checked (judge_rules n k m P)
      unfolding from5
      assignment_bad r e = sym (after3 ∙ group_bad (assignment_rules n P.domains P.assignment) (table_rules k P.domains P.table) r e)

      pub table_decides : checked (assignment_rules n P.domains P.assignment) ≡ Ok tt
          → checked (table_rules k P.domains P.table) ≡ checked (judge_rules n k m P)
      unfolding from5
      table_decides e = sym (after3 ∙ group_fine (assignment_rules n P.domains P.assignment) (table_rules k P.domains P.table) e)

  -- past the rules both are within the limits
  pub judgeable : checked (judge_rules n k m P) ≡ Ok tt → Holds n k 3 m × Within n k P
  unfolding judge_rules domain_of
  judgeable e =
      let (e1, f) = groups_fine (size_rules n k P.domains) _ e in
      let (e2, g) = groups_fine (matrix_rules n k m) _ f in
      let (e5, e7) = groups_fine (assignment_rules n P.domains P.assignment) _ g in
      let sized = sizes_fine n k P.domains e1 in
      let cells = matrix_fine n k m e2 in
      let assigned = assignment_fine n P.domains P.assignment e5 in
      let table = table_fine k P.domains P.table e7 in
      let valid : Valid n k P = record {
        entities = assigned.long;
        below = λ u h. assigned.below u (omega (arith, assigned.long));
        size = table.long;
        cells = table.below;
      } in (
        record { laid = record { entities = sized.entities; right = sized.right; rights = sized.rights; size = cells.long }; below = cells.below },
        record { entities = sized.entities; right = sized.right; rights = sized.rights; few = sized.domains; valid = valid },
      )

  -- ---- what is told

  told : (c : Checked) → checked (judge_rules n k m P) ≡ c → tell c (verdict n k m P) ≡ judge_told n k m P
  unfolding judge_told
  told c e = ap (λ (x : Checked). tell x (verdict n k m P)) (sym e)

  pub refuses : (x : Checked) (r : Refusal) → x ≡ checked (judge_rules n k m P) → x ≡ Err r → told_refusal r ≡ judge_told n k m P
  refuses x r e f = told (Err r) (sym e ∙ f)

  -- past the rules, where i is the cell that was found, or none was
  module _ (fine : checked (judge_rules n k m P) ≡ Ok tt) (i : ℕ) (e : i ≡ conflict n k m P) where
    pub conflicts : i < length m → values (1 ∷ i ∷ get_or m i 0 ∷ []) ≡ judge_told n k m P
    unfolding verdict
    conflicts h = rw (sym e, lt-ltb i (n * k * n) (omega (arith, h, (judgeable fine).0.laid.size))) at (told (Ok tt) fine)

    pub enforces : i ≡ n * k * n → values (0 ∷ P.domains ∷ []) ≡ judge_told n k m P
    unfolding verdict
    enforces h = rw (sym e, le-ltb i (n * k * n) (omega (arith, h))) at (told (Ok tt) fine)
