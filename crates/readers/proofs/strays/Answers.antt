-- `readers::strays` meets its contract: the test is whether a byte is no cell below lim. Assumes nothing.
use borrow.Author.Rules.{rules}
use lib.Dec.{leb}
use Rattle.layout.specs.Layout.{cell_of}
use Rattle.readers.proofs.strays.Goals as goal

pub returns : goal.returns
returns c = c.some_passes.ensures (λ x. leb c.args.lim (cell_of x)) (λ x y h e. search rules)
