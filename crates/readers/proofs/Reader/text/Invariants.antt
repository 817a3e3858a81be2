-- `readers::Reader::text` meets its contract. The invariant: the first bytes of the mark are read. Assumes nothing.
use mathlib.Core.Path.{◌≡◌}
use Rattle.readers.proofs.Exits.{Letters}
use Rattle.readers.proofs.Reader.text.Given as goal

abbrev pub invariant-loop-x : goal.invariant-loop-x
invariant-loop-x l = record {
  same : l.self.file.now ≡ l.fn.self.file.now;
  letters : Letters l.fn.self l.self l.mark l.x-index;
}
