-- `lowest::lowest_by_blocks` meets its contract. The invariant: no byte of the blocks so far is b or more. A block with no such byte moves on; in
-- the first block that has one, its lowest place is the whole's. Assumes nothing.
use Prim.Native.Nat.{◌*◌}
use lib.Dec.{leb}
use Rattle.lowest.proofs.Lowest.{NoneBefore}
use Rattle.lowest.proofs.lowest_by_blocks.Given as goal

abbrev pub invariant-loop-block : goal.invariant-loop-block
invariant-loop-block l = NoneBefore (leb l.b) l.s (l.block * 256)
