-- `conflicts::first_conflict` meets its contract. The invariant of each loop: the next cell stands at `cell`, and no cell before it is a conflict
-- (`Clear`). After a row's last receiver comes the next right's first cell, and after the last right the next sender's: so at the end no cell
-- is a conflict, and at the break `cell` is the first. Assumes nothing.
use mathlib.Core.Path.{◌≡◌}
use Rattle.std.specs.Prelude.{None}
use Rattle.model.specs.Laid.{granting}
use Rattle.conflicts.proofs.Scan.{Clear}
use Rattle.conflicts.proofs.first_conflict.Given as goal

abbrev pub invariant-loop-v : goal.invariant-loop-v
invariant-loop-v l = (l.found ≡ None) × Clear l.m.n l.m.k l.m.cells.now (granting l.p) l.u l.a l.v l.cell

abbrev pub invariant-loop-a : goal.invariant-loop-a
invariant-loop-a l = (l.found ≡ None) × Clear l.m.n l.m.k l.m.cells.now (granting l.p) l.u l.a 0 l.cell

abbrev pub invariant-cells : goal.invariant-cells
invariant-cells l = (l.found ≡ None) × Clear l.m.n l.m.k l.m.cells.now (granting l.p) l.u 0 0 l.cell
