-- `writers::Writer::put_numbers` meets its contract. The invariant: the numbers so far are written, two digits each. Assumes nothing.
use mathlib.Core.Path.{◌≡◌}
use mathlib.Core.List.{List}
use Prim.Native.Nat.{ℕ, ◌+◌, ◌*◌}
use lib.ListN.{get_or}
use Rattle.layout.specs.Text.{each, two}
use Rattle.writers.specs.Writes.{Writes}
use Rattle.writers.proofs.Writer.put_numbers.Given as goal

abbrev pub digits : List ℕ → ℕ → List ℕ
digits numbers u = two (get_or numbers u 0)

abbrev pub invariant-loop-x : goal.invariant-loop-x
invariant-loop-x l = record {
  written : Writes l.initial.self l.self (each l.x-index (digits l.numbers));
  ends : l.self.at ≡ l.initial.self.at + l.x-index * 2;
}
