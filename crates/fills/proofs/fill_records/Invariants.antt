-- `fills::fill_records` meets its contract. The invariant: the values of the first u records' cells are written. Assumes nothing.
use mathlib.Core.Path.{◌≡◌}
use lib.Seq.{sets}
use Rattle.layout.specs.Text.{each}
use Rattle.layout.specs.Layout.{row_at}
use Rattle.fills.proofs.fill_records.Given as goal

abbrev pub invariant-loop-u : goal.invariant-loop-u
invariant-loop-u l = l.out ≡ sets l.initial.out 0 (each l.u (row_at l.s l.at l.w))
