-- `lowest::lowest_from` meets its contract: no byte is above 255, and for a smaller b the blocks are scanned. Assumes nothing.
use native.Mathlib.Omega.{arith}
use Rattle.lowest.proofs.Lowest.{lowest_past}
use Rattle.lowest.proofs.lowest_from.Goals as goal

pub returns-then-b-gt255 : goal.returns-then-b-gt255
returns-then-b-gt255 c = let a = c.args in lowest_past a.b a.s.now (omega arith) (λ i. (c.shared_slice_known-1.given i).fits)
