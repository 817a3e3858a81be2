-- `places::read_assigned` meets its contract: each exit is one of `Exits`. Assumes nothing.
use Rattle.std.proofs.lemmas.Result.{MatchResult-weaker}
use Rattle.readers.proofs.Steps.{gives_up}
use Rattle.places.proofs.Exits.{assigned_unmarked, assigned_unnamed, assigned_unended, assigned_whole}
use Rattle.places.proofs.read_assigned.Goals as goal

pub returns-in_err-text-clause-read : goal.returns-in_err-text-clause-read
returns-in_err-text-clause-read c = gives_up c.from_residual.result _ _ c.from_residual.ensures.1 (assigned_unmarked _ _ c.in_err-text.ensures.read)

pub returns-in_err-numbers-clause-read : goal.returns-in_err-numbers-clause-read
returns-in_err-numbers-clause-read c =
    let p = c.in_ok-text.ensures in
    gives_up c.from_residual-in_err-numbers.result _ _ c.from_residual-in_err-numbers.ensures.1
    (assigned_unnamed _ _ p.file p.read c.in_err-numbers.ensures.read)

pub returns-clause-read : goal.returns-clause-read
returns-clause-read c =
    let p = c.in_ok-text.ensures in
    let q = c.in_ok-numbers.ensures in
    MatchResult-weaker _ c.text-2.ensures.read (λ x w. assigned_whole _ _ p.file p.read q.file q.read w)
    (λ y f. assigned_unended _ _ p.file p.read q.file q.read f)
