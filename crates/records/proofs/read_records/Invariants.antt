-- `records::read_records` meets its contract. The invariant: the first u records are read. Assumes nothing.
use mathlib.Core.Path.{◌≡◌}
use Prim.Native.Nat.{◌+◌, ◌*◌}
use Rattle.layout.specs.Layout.{record_of, times}
use Rattle.readers.specs.Pieces.{Whole}
use Rattle.records.proofs.read_records.Given as goal

abbrev pub invariant-loop-u : goal.invariant-loop-u
invariant-loop-u l = record {
  same : l.reader.file.now ≡ l.fn.reader.file.now;
  read : Whole l.fn.reader l.reader (l.u * (l.w + 5)) (times l.u (record_of l.mark l.lim l.w)) (λ F. F);
}
