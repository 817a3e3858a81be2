-- `lines::same_row` meets its contract: the answers at each cell are the test. Assumes nothing.
use Rattle.std.proofs.Common.{rules}
use Rattle.lines.proofs.Lines.{agree_told}
use Rattle.lines.proofs.same_row.Goals as goal

pub returns : goal.returns
returns c = agree_told _ _ _ _ c.all_same.ensures (λ j y. search rules) (λ j y. search rules)
