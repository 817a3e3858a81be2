-- `lines::all_same` meets its contract. The invariant: the answer is yes at each number of the first b blocks. Assumes nothing.
use Rattle.std.proofs.Common.{arith}
use Rattle.std.proofs.Math.Nat.{mul-le-mul_right, div-add-mod'}
use Rattle.lines.proofs.all_same.Goals as goal

-- a block ends below `count`
pub block_same-requires-clause-callable : goal.block_same-requires-clause-callable
block_same-requires-clause-callable g c = λ j i e.
    c.requires.callable j (omega (arith, mul-le-mul_right g.row.BLOCK c.loop-b-test.true, div-add-mod' c.args.count g.row.BLOCK))
