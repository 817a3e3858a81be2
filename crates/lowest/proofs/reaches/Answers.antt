-- `lowest::reaches` meets its contract: the test is whether a byte is b or more. Assumes nothing.
use Rattle.std.proofs.Common.{rules}
use lib.Dec.{leb}
use Rattle.lowest.proofs.reaches.Goals as goal

pub returns : goal.returns
returns c = c.some_passes.ensures (leb c.args.b) (λ x y h e. search rules)
