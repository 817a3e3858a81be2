-- `ask::ask` meets its contract: a group that refuses decides, since the rules before it do not apply (`Exits`). Assumes nothing.
use mathlib.Core.Path.{sym, ◌∙◌}
use native.Mathlib.Omega.{arith}
use Rattle.model.specs.Policy.{policy}
use Rattle.model.proofs.Groups.{handed_on}
use Rattle.ask.proofs.Exits.{sizes_bad, request_bad}
use Rattle.ask.proofs.ask.Goals as goal

pub returns-in_err-sizes : goal.returns-in_err-sizes
returns-in_err-sizes c =
    let a = c.args in
    let same = handed_on _ c.from_residual.ensures.1 in
    rw same (sizes_bad a.n a.k a.u a.a a.v (policy a.d a.assignment.now a.table.now) _ (sym c.sizes.ensures ∙ c.in_err-sizes.was))

pub returns-in_err-request_fits : goal.returns-in_err-request_fits
returns-in_err-request_fits c =
    let a = c.args in
    let P = policy a.d a.assignment.now a.table.now in
    let sized = sym c.sizes.ensures ∙ c.in_ok-sizes.was in
    let same = handed_on _ c.from_residual-in_err-request_fits.ensures.1 in
    rw same (request_bad a.n a.k a.u a.a a.v P sized (omega arith) (omega arith) _ (sym c.request_fits.ensures ∙ c.in_err-request_fits.was))
