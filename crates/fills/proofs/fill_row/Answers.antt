-- `fills::fill_row` meets its contract: a turn writes one value. Assumes nothing.
use native.Mathlib.Omega.{arith}
use Rattle.model.proofs.Loops.{filled_none, filled_next}
use Rattle.fills.proofs.fill_row.Goals as goal
use Rattle.fills.proofs.fill_row.Invariants.{cell}

pub loop-i-init : goal.loop-i-init
loop-i-init c = filled_none (cell c.args.row.now) c.args.out.now

pub loop-i-preserved : goal.loop-i-preserved
loop-i-preserved c =
    let a = c.args in
    let l = c.loop-i in
    rw (l.invariant, c.cell_of.ensures) (filled_next l.i (cell a.row.now) a.out.now (omega arith))
