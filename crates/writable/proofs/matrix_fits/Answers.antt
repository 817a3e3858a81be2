-- `writable::matrix_fits` meets its contract: a group that refuses decides, since those before it find nothing. Assumes nothing.
use native.Mathlib.Omega.{arith}
use borrow.Author.Rules.{rules}
use Rattle.model.proofs.Groups.{group_bad}
use Rattle.model.proofs.Rules.{decided}
use Rattle.writable.specs.Rules.{matrix_write_rules}
use Rattle.writable.proofs.matrix_fits.Goals as goal

pub returns-in_err-sizes : goal.returns-in_err-sizes
unfolding matrix_write_rules
returns-in_err-sizes c = search (rules, group_bad)

pub returns-in_err-matrix_fits : goal.returns-in_err-matrix_fits
unfolding matrix_write_rules
returns-in_err-matrix_fits c = grind (arith, decided)
