-- `writers::Writer::put_cells` meets its contract. The invariant: the characters of the first i cells are written. Assumes nothing.
use mathlib.Core.Path.{◌≡◌}
use mathlib.Core.List.{List}
use Prim.Native.Nat.{ℕ}
use lib.ListN.{get_or}
use lib.Seq.{sets}
use Rattle.model.specs.Below.{tab}
use Rattle.layout.specs.Text.{cell_char}
use Rattle.writers.proofs.Writer.put_cells.Given as goal

abbrev pub char : List ℕ → ℕ → ℕ
char cells i = cell_char (get_or cells i 0)

abbrev pub invariant-loop-i : goal.invariant-loop-i
invariant-loop-i l = l.out ≡ sets l.initial.out l.at (tab l.i (char l.cells))
