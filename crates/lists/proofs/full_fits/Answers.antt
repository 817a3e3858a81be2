-- `lists::full_fits` finds what its rule finds: among cells below 3 the lowest from 2 on is the lowest unlogged one. Assumes nothing.
use mathlib.Core.Path.{sym, ap, ◌∙◌}
use native.Mathlib.Nat.{le_refl}
use lib.Dec.{eqb}
use lib.ListN.{length}
use Rattle.std.specs.Prelude.{Err}
use Rattle.model.specs.declared.Fault.TheVariants.{Unlogged}
use Rattle.model.specs.Refusal.{cell_refusal}
use Rattle.model.specs.Rules.{full_rules}
use Rattle.model.proofs.Rules.{matrix_fine, unlogged, lowest_fine, lowest_bad}
use Rattle.lists.proofs.full_fits.Goals as goal

pub returns-in-Some : goal.returns-in-Some
unfolding full_rules
returns-in-Some c =
    let a = c.args in
    let found = c.in-Some.ensures in
    let same = unlogged a.m.now (matrix_fine a.n a.k a.m.now c.requires).below in
    ap Err c.refuse_cell.ensures ∙ lowest_bad (eqb 2) a.m.now (cell_refusal Unlogged a.k a.n) _ (found.0 ∙ same) found.1

pub returns-in-None : goal.returns-in-None
unfolding full_rules
returns-in-None c =
    let a = c.args in
    let same = unlogged a.m.now (matrix_fine a.n a.k a.m.now c.requires).below in
    let end = length a.m.now in
    lowest_fine (eqb 2) a.m.now (cell_refusal Unlogged a.k a.n) end (sym c.in-None.ensures ∙ same) (le_refl end)
