-- `lowest::lowest_in_block` meets its contract: where some byte is b or more, its place is found, and else there is none. Assumes nothing.
use mathlib.Core.Path.{sym, ◌∙◌}
use lib.Dec.{leb}
use Rattle.lowest.proofs.Lowest.{position_lowest, unreached}
use Rattle.lowest.proofs.lowest_in_block.Goals as goal

pub returns-then-reaches : goal.returns-then-reaches
returns-then-reaches c = position_lowest (leb c.args.b) c.args.s.now _ c.lowest_in.ensures

pub returns-else-reaches : goal.returns-else-reaches
returns-else-reaches c = unreached (leb c.args.b) c.args.s.now (sym c.reaches.ensures ∙ c.if-reaches.false)
