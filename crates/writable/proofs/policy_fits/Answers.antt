-- `writable::policy_fits` meets its contract: the sizes refuse where their group does, and past the tests the policy is within the limits.
-- Assumes nothing.
use mathlib.Core.Path.{sym, ◌∙◌}
use borrow.Author.Rules.{rules}
use Rattle.model.proofs.Groups.{group_bad}
use Rattle.writable.specs.Rules.{policy_write_rules}
use Rattle.writable.proofs.Rules.{policy_within}
use Rattle.writable.proofs.policy_fits.Goals as goal

pub returns-in_err-sizes : goal.returns-in_err-sizes
unfolding policy_write_rules
returns-in_err-sizes c = search (rules, group_bad)

pub invariant_of-result : goal.invariant_of-result
invariant_of-result c =
    let sized = sym c.sizes.ensures ∙ c.in_ok-sizes.was in
    let named = sym c.assignment_fits.ensures ∙ c.in_ok-assignment_fits.was in
    let filled = sym c.table_fits.ensures ∙ c.in_ok-table_fits.was in
    record { within = policy_within c.args.n c.args.k _ sized named filled }
