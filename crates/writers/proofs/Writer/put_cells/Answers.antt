-- `writers::Writer::put_cells` meets its contract. The invariant: the characters of the first i cells are written. Assumes nothing.
use mathlib.Core.Path.{◌≡◌, refl}
use Prim.Native.Nat.{◌+◌}
use native.Mathlib.Omega.{arith}
use lib.ListN.{length}
use Rattle.model.specs.Below.{tab}
use Rattle.model.proofs.Below.{length_tab}
use Rattle.layout.proofs.Puts.{tab_start, tab_turn}
use Rattle.writers.proofs.Writes.{wrote}
use Rattle.writers.proofs.Writer.put_cells.Goals as goal
use Rattle.writers.proofs.Writer.put_cells.Invariants.{char}

pub loop-i-init : goal.loop-i-init
loop-i-init c = let a = c.args in tab_start (char a.cells.now) a.self.now.buffer.now a.self.now.at

pub loop-i-preserved : goal.loop-i-preserved
loop-i-preserved c =
    let a = c.args in
    let l = c.loop-i in
    tab_turn (char a.cells.now) a.self.now.buffer.now a.self.now.at l.i (a.self.now.at + l.i) l.invariant refl c.cell_char.ensures

pub returns-clause-written : goal.returns-clause-written
returns-clause-written c =
    let cells = c.args.cells.now in
    let e : c.loop-i.i ≡ length cells = omega arith in
    wrote (tab (length cells) (char cells)) refl (rw e at c.loop-i.invariant) (omega (arith, length_tab (length cells) (char cells)))
