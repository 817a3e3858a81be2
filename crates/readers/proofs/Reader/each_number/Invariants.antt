-- `readers::Reader::each_number` meets its contract. The invariant: the first of the numbers are read. Assumes nothing.
use mathlib.Core.Path.{◌≡◌}
use Prim.Native.Nat.{◌*◌}
use Rattle.layout.specs.Layout.{number, times}
use Rattle.readers.specs.Pieces.{Whole}
use Rattle.readers.proofs.Reader.each_number.Given as goal

abbrev pub invariant-loop : goal.invariant-loop
invariant-loop l = record {
  same : l.self.file.now ≡ l.fn.self.file.now;
  read : Whole l.fn.self l.self (l.counter * 2) (times l.counter (λ _ F. number 0 l.hi (λ _. F))) (λ F. F);
}
