-- `rows::put_records` meets its contract. The invariant: the first u records are written. Assumes nothing.
use mathlib.Core.Path.{◌≡◌}
use Prim.Native.Nat.{◌+◌, ◌*◌}
use Rattle.layout.specs.Text.{each, record_text}
use Rattle.writers.specs.Writes.{Writes}
use Rattle.rows.proofs.put_records.Given as goal

abbrev pub invariant-loop-u : goal.invariant-loop-u
invariant-loop-u l = record {
  written : Writes l.initial.out l.out (each l.u (record_text l.mark l.w l.cells));
  ends : l.out.at ≡ l.initial.out.at + l.u * (l.w + 5);
}
