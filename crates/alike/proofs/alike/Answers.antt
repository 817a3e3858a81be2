-- `alike::alike` meets its contract where the matrix is refused: its group of rules decides, since it is the first. Assumes nothing.
use mathlib.Core.Path.{sym}
use Rattle.model.specs.Rules.{whole_rules, pair_rules}
use Rattle.model.specs.Refusal.{checked}
use Rattle.model.proofs.Groups.{handed_on, group_bad, tell_bad}
use Rattle.alike.specs.Compare.{alike_rules, alike_told}
use Rattle.alike.proofs.alike.Goals as goal

pub returns-in_err-m : goal.returns-in_err-m
unfolding alike_rules alike_told
returns-in_err-m c =
    let a = c.args in
    let same = handed_on _ c.from_residual.ensures.1 in
    let bad = group_bad (whole_rules a.n a.k a.matrix.now) (pair_rules a.n a.u a.v) _ (sym c.in_err-m.ensures.refusals) in
    rw same (tell_bad (checked (alike_rules a.n a.k a.u a.v a.matrix.now)) _ bad _)
