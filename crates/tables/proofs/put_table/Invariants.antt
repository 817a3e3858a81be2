-- `tables::put_table` meets its contract. The invariant of each loop: `to` is the place of the cell that is next, and the table is filled
-- up to there (`Grown`, since a loop inside another begins with a table that is filled in part). Assumes nothing.
use mathlib.Core.Path.{◌≡◌}
use Rattle.model.specs.Matrix.{cell_at}
use Rattle.model.proofs.Loops.{Grown}
use Rattle.tables.proofs.Table.{cells_of}
use Rattle.tables.proofs.put_table.Given as goal

abbrev pub invariant-loop-q : goal.invariant-loop-q
invariant-loop-q l =
    (l.to ≡ cell_at l.fn.c.of.k l.fn.c.count l.p-index l.a l.q-index) × Grown (cells_of l.fn.c) l.initial.table l.initial.to l.table l.to

abbrev pub invariant-loop-a : goal.invariant-loop-a
invariant-loop-a l =
    (l.to ≡ cell_at l.fn.c.of.k l.fn.c.count l.p-index l.a 0) × Grown (cells_of l.fn.c) l.initial.table l.initial.to l.table l.to

abbrev pub invariant-loop-p : goal.invariant-loop-p
invariant-loop-p l = (l.to ≡ cell_at l.fn.c.of.k l.fn.c.count l.p-index 0 0) × Grown (cells_of l.fn.c) l.initial.table 0 l.table l.to
