-- `fills::fill_row` meets its contract. The invariant: the values of the first i cells are written. Assumes nothing.
use mathlib.Core.Path.{◌≡◌}
use mathlib.Core.List.{List}
use Prim.Native.Nat.{ℕ}
use lib.ListN.{get_or}
use Rattle.model.proofs.Loops.{filled}
use Rattle.layout.specs.Layout.{cell_of}
use Rattle.fills.proofs.fill_row.Given as goal

abbrev pub cell : List ℕ → ℕ → ℕ
cell s i = cell_of (get_or s i 0)

abbrev pub invariant-loop-i : goal.invariant-loop-i
invariant-loop-i l = l.out ≡ filled l.i (cell l.row) l.initial.out
