-- `places::read_head` meets its contract: each exit is one of `Exits`. Assumes nothing.
use Rattle.readers.proofs.Steps.{gives_up}
use Rattle.places.proofs.Exits.{head_unsized, head_uncounted, head_unended, head_whole}
use Rattle.places.proofs.read_head.Goals as goal

pub returns-in_err-n-clause-read : goal.returns-in_err-n-clause-read
returns-in_err-n-clause-read c = gives_up c.from_residual.result _ _ c.from_residual.ensures.1 (head_unsized c.in_err-n.ensures.read)

pub returns-in_err-d-clause-read : goal.returns-in_err-d-clause-read
returns-in_err-d-clause-read c =
    let z = c.in_ok-n.ensures in
    gives_up c.from_residual-in_err-d.result _ _ c.from_residual-in_err-d.ensures.1
    (head_uncounted z.file z.read (rw c.least_domains.ensures at c.in_err-d.ensures.read))

pub returns-in_err-text-clause-read : goal.returns-in_err-text-clause-read
returns-in_err-text-clause-read c =
    let z = c.in_ok-n.ensures in
    let d = c.in_ok-d.ensures in
    gives_up c.from_residual-in_err-text.result _ _ c.from_residual-in_err-text.ensures.1
    (head_unended z.file z.read d.file (rw c.least_domains.ensures at d.read) c.in_err-text.ensures.read)

pub returns-clause-read : goal.returns-clause-read
returns-clause-read c =
    let z = c.in_ok-n.ensures in
    let d = c.in_ok-d.ensures in
    head_whole z.file z.read d.file (rw c.least_domains.ensures at d.read) c.in_ok-text.ensures.read
