-- The two groups of rules in a row, and what each exit of the call tells. No function's proof cites it. Assumes nothing.
use mathlib.Core.Path.{◌≡◌, sym}
use mathlib.Core.Bool.{true, false}
use mathlib.Core.List.{List, [], ◌∷◌}
use Prim.Native.Nat.{ℕ, ◌<◌}
use Rattle.std.specs.Prelude.{Ok, Err}
use Rattle.model.specs.declared.Refusal.{Refusal}
use Rattle.model.specs.Matrix.{cell, Laid}
use Rattle.model.specs.Alike.{alike_test}
use Rattle.model.specs.Refusal.{checked, values, told_refusal}
use Rattle.model.specs.Rules.{whole_rules, pair_rules}
use Rattle.model.proofs.Groups.{group_fine, group_bad, groups_fine}
use Rattle.model.proofs.Rules.{whole_fine, pair_fine}
use Rattle.alike.specs.Compare.{alike_rules, alike_told}

module _ (n k u v : ℕ) (m : List ℕ) where
  pub whole_bad : (r : Refusal) → checked (whole_rules n k m) ≡ Err r → Err r ≡ checked (alike_rules n k u v m)
  unfolding alike_rules
  whole_bad r e = sym (group_bad (whole_rules n k m) (pair_rules n u v) r e)

  pub whole_passed : checked (whole_rules n k m) ≡ Ok tt → checked (pair_rules n u v) ≡ checked (alike_rules n k u v m)
  unfolding alike_rules
  whole_passed e = sym (group_fine (whole_rules n k m) (pair_rules n u v) e)

  pub told_refused : (r : Refusal) → checked (alike_rules n k u v m) ≡ Err r → told_refusal r ≡ alike_told n k u v m
  unfolding alike_told
  told_refused r e = rw e

  module _ (e : checked (alike_rules n k u v m) ≡ Ok tt) where
    -- what the comparison takes for granted
    pub fits : Laid n k m × ((u < n) × (v < n))
    unfolding alike_rules
    fits =
        let (f, g) = groups_fine (whole_rules n k m) (pair_rules n u v) e in
        ((whole_fine n k m f).laid, pair_fine n u v g)

    pub told_yes : alike_test n k (cell k n m) u v ≡ true → values (1 ∷ []) ≡ alike_told n k u v m
    unfolding alike_told
    told_yes f = rw (e, f)

    pub told_no : alike_test n k (cell k n m) u v ≡ false → values (0 ∷ []) ≡ alike_told n k u v m
    unfolding alike_told
    told_no f = rw (e, f)
