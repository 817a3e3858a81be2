-- `records::read_close` meets its contract: the mark, the line feed and the file's end, each with the exit where the file does not fit.
-- Assumes nothing.
use mathlib.Core.Path.{◌∙◌}
use native.Mathlib.Omega.{arith}
use Rattle.readers.proofs.Steps.{stopped_at}
use Rattle.records.proofs.Lines.{close_unmarked, close_unended, close_more, close_whole}
use Rattle.records.proofs.read_close.Goals as goal

pub returns-in_err-text-clause-place : goal.returns-in_err-text-clause-place
returns-in_err-text-clause-place c =
    stopped_at c.from_residual.result _ c.from_residual.ensures.1 (close_unmarked c.in_err-text.ensures.read)

pub returns-in_err-text-2-clause-place : goal.returns-in_err-text-2-clause-place
returns-in_err-text-2-clause-place c =
    stopped_at c.from_residual-in_err-text-2.result _ c.from_residual-in_err-text-2.ensures.1
    (close_unended c.in_ok-text.ensures.read c.in_err-text-2.ensures.read)

pub returns-then-reader-clause-place : goal.returns-then-reader-clause-place
returns-then-reader-clause-place c = close_more c.in_ok-text.ensures.read c.in_ok-text-2.ensures.read (omega arith)

pub returns-else-reader-clause-place : goal.returns-else-reader-clause-place
returns-else-reader-clause-place c =
    let p = c.in_ok-text.ensures in
    let q = c.in_ok-text-2.ensures in
    close_whole p.read q.read (q.file ∙ p.file) (omega arith)
