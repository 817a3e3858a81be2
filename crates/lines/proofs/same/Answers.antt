-- `lines::same` meets its contract: the two parts are the rows of u and v, which lie in the matrix, and whole rows and columns are the
-- test of alike (`Lines`). Assumes nothing.
use mathlib.Core.Path.{◌∙◌}
use native.Mathlib.Omega.{arith}
use Rattle.lines.proofs.Lines.{rows_differ, rows_then_columns}
use Rattle.lines.proofs.same.Goals as goal

pub returns-else-same_row : goal.returns-else-same_row
returns-else-same_row c =
    let m = c.args.m.now in
    rows_differ m.n m.k m.cells.now m.laid c.args.u c.args.v (omega arith) (omega arith) _ c.same_row.ensures (c.if-same_row.false)

pub returns-then-same_row : goal.returns-then-same_row
returns-then-same_row c =
    let m = c.args.m.now in
    let told = c.same_row.ensures in
    c.same_columns.ensures
    ∙ rows_then_columns m.n m.k m.cells.now m.laid c.args.u c.args.v (omega arith) (omega arith) _ told (c.if-same_row.true)
