-- `fills::fill_records` meets its contract: a turn writes a row. Assumes nothing.
use Prim.Native.Nat.{◌*◌}
use native.Mathlib.Omega.{arith}
use Rattle.model.proofs.Below.{length_tab}
use Rattle.layout.specs.Layout.{row_at}
use Rattle.layout.proofs.Puts.{each_start, each_turn}
use Rattle.fills.proofs.fill_records.Goals as goal

pub loop-u-init : goal.loop-u-init
loop-u-init c = let a = c.args in each_start (row_at a.s.now a.at a.w) a.out.now 0

pub loop-u-preserved : goal.loop-u-preserved
loop-u-preserved c =
    let a = c.args in
    let l = c.loop-u in
    each_turn (row_at a.s.now a.at a.w) a.out.now 0 l.u a.w (l.u * a.w) (λ i h. length_tab a.w _) l.invariant (omega arith) c.fill_cells.ensures
