-- `records::read_record` meets its contract: its four pieces, each with the exit where the file does not fit. Assumes nothing.
use Rattle.std.proofs.lemmas.Result.{MatchResult-weaker}
use Rattle.readers.proofs.Steps.{gives_up}
use Rattle.records.proofs.Lines.{record_unnamed, record_unnumbered, record_unfilled, record_unended, record_whole}
use Rattle.records.proofs.read_record.Goals as goal

pub returns-in_err-text-clause-read : goal.returns-in_err-text-clause-read
returns-in_err-text-clause-read c =
    gives_up c.from_residual.result _ _ c.from_residual.ensures.1 (record_unnamed _ _ _ _ c.told-mark c.in_err-text.ensures.read)

pub returns-in_err-number-clause-read : goal.returns-in_err-number-clause-read
returns-in_err-number-clause-read c =
    let p = c.in_ok-text.ensures in
    gives_up c.from_residual-in_err-number.result _ _ c.from_residual-in_err-number.ensures.1
    (record_unnumbered _ _ _ _ c.told-mark p.file p.read c.in_err-number.ensures.read)

pub returns-in_err-cells-clause-read : goal.returns-in_err-cells-clause-read
returns-in_err-cells-clause-read c =
    let p = c.in_ok-text.ensures in
    let q = c.in_ok-number.ensures in
    gives_up c.from_residual-in_err-cells.result _ _ c.from_residual-in_err-cells.ensures.1
    (record_unfilled _ _ _ _ c.told-mark p.file p.read q.file q.read c.in_err-cells.ensures.read)

pub returns-clause-read : goal.returns-clause-read
returns-clause-read c =
    let m = c.told-mark in
    let p = c.in_ok-text.ensures in
    let q = c.in_ok-number.ensures in
    let b = c.in_ok-cells.ensures in
    MatchResult-weaker _ c.text-2.ensures.read (λ x w. record_whole _ _ _ _ m p.file p.read q.file q.read b.file b.read w)
    (λ y f. record_unended _ _ _ _ m p.file p.read q.file q.read b.file b.read f)
