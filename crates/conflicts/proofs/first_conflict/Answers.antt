-- `conflicts::first_conflict` meets its contract. The invariant of each loop: the next cell stands at `cell`, and no cell before it is a conflict
-- (`Clear`). After a row's last receiver comes the next right's first cell, and after the last right the next sender's: so at the end no cell
-- is a conflict, and at the break `cell` is the first. Assumes nothing.
use mathlib.Core.Path.{◌≡◌, refl, sym, ◌∙◌}
use Prim.Native.Nat.{ℕ}
use native.Mathlib.Omega.{arith}
use lib.ListN.{get_or}
use Rattle.model.specs.declared.Policy.{Policy}
use Rattle.model.specs.Laid.{granting}
use Rattle.model.specs.Policy.{Within}
use Rattle.model.proofs.Loops.{first_zero}
use Rattle.model.proofs.Places.{Steps}
use Rattle.conflicts.proofs.Scan.{table_steps, end, next, found, inside}
use Rattle.conflicts.proofs.first_conflict.Goals as goal
use Rattle.conflicts.proofs.first_conflict.Goals.{In-loop-a, In-loop-v}

-- the policy is one for the matrix
within : {n k : ℕ} (p : Policy) → (p.n ≡ n) × (p.k ≡ k) → Within n k (granting p)
within p e = rw (e.0, e.1) at p.within

row : (c : In-loop-a) → let e = c.args in
    let p = get_or e.p.now.assignment.now (c.cells.u) 0 in
    Steps e.p.now.domains e.m.now.k e.p.now.domains p c.loop-a.a p
row c = table_steps (within c.args.p.now c.requires) (omega arith) (omega arith) (omega arith)

answer : (c : In-loop-v) → let e = c.args in
    let s = e.p.now.assignment.now in
    Steps e.p.now.domains e.m.now.k e.p.now.domains (get_or s (c.cells.u) 0) c.loop-a.a (get_or s c.loop-v.v 0)
answer c = table_steps (within c.args.p.now c.requires) (omega arith) (omega arith) (omega arith)

pub cells-init : goal.cells-init
cells-init c = (refl, record { place = omega arith; none = first_zero _ })

pub bounds-p-row : goal.bounds-p-row
bounds-p-row c =
    let size = (within c.args.p.now c.requires).valid.size in
    omega (arith, (row (goal.at.bounds-p-row c).In-loop-a).inside, (answer (goal.at.bounds-p-row c).In-loop-v).inside, size)

pub loop-v-preserved : goal.loop-v-preserved
loop-v-preserved c =
    let inv = c.loop-v.invariant in
    (inv.0, next inv.1 (omega arith) (omega arith) (omega arith) (sym c.contradicts.ensures ∙ c.if-contradicts.false))

pub returns-after-cells-clause-first : goal.returns-after-cells-clause-first
returns-after-cells-clause-first c = rw c.cells.invariant.0 (end c.cells.invariant.1 refl refl (omega arith))

pub returns-then-contradicts-clause-first : goal.returns-then-contradicts-clause-first
returns-then-contradicts-clause-first c =
    found c.loop-v.invariant.1 (omega arith) (omega arith) (omega arith) (sym c.contradicts.ensures ∙ c.if-contradicts.true)

pub returns-then-contradicts-clause-inside : goal.returns-then-contradicts-clause-inside
returns-then-contradicts-clause-inside c = inside c.loop-v.invariant.1 (omega arith) (omega arith) (omega arith) c.args.m.now.laid
