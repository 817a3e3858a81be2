-- `records::read_sizes` meets its contract: the mark and the two numbers, each with the exit where the file does not fit. Assumes nothing.
use Rattle.readers.proofs.Steps.{gives_up}
use Rattle.records.proofs.Lines.{sizes_unnamed, sizes_uncounted, sizes_unright, sizes_whole}
use Rattle.records.proofs.read_sizes.Goals as goal

pub returns-in_err-text-clause-read : goal.returns-in_err-text-clause-read
returns-in_err-text-clause-read c =
    gives_up c.from_residual.result _ _ c.from_residual.ensures.1 (sizes_unnamed _ c.told-mark c.in_err-text.ensures.read)

pub returns-in_err-n-clause-read : goal.returns-in_err-n-clause-read
returns-in_err-n-clause-read c =
    let p = c.in_ok-text.ensures in
    gives_up c.from_residual-in_err-n.result _ _ c.from_residual-in_err-n.ensures.1
    (sizes_uncounted _ c.told-mark p.file p.read c.in_err-n.ensures.read)

pub returns-in_err-k-clause-read : goal.returns-in_err-k-clause-read
returns-in_err-k-clause-read c =
    let p = c.in_ok-text.ensures in
    let q = c.in_ok-n.ensures in
    gives_up c.from_residual-in_err-k.result _ _ c.from_residual-in_err-k.ensures.1
    (sizes_unright _ c.told-mark p.file p.read q.file q.read c.in_err-k.ensures.read)

pub returns-clause-read : goal.returns-clause-read
returns-clause-read c =
    let p = c.in_ok-text.ensures in
    let q = c.in_ok-n.ensures in
    sizes_whole _ c.told-mark p.file p.read q.file q.read c.in_ok-k.ensures.read
