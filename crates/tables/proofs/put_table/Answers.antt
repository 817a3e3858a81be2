-- `tables::put_table` meets its contract. The invariant of each loop: `to` is the place of the cell that is next, and the table is filled
-- up to there (`Grown`, since a loop inside another begins with a table that is filled in part). Assumes nothing.
use mathlib.Core.Path.{◌≡◌, refl, ap, ◌∙◌}
use mathlib.Core.List.{List}
use Prim.Native.Nat.{ℕ, ◌*◌, ◌<◌}
use native.Mathlib.Omega.{arith}
use lib.ListN.{length, get_or, take}
use lib.Seq.{length-take-le, get_or-take}
use Rattle.model.specs.Matrix.{cell_at}
use Rattle.model.specs.Built.{table_of}
use Rattle.model.proofs.Loops.{filled, grown_next, grown_whole}
use Rattle.classes.specs.Members.{Members}
use Rattle.tables.proofs.Table.{cells_of, table_cell_lem, At, at}
use Rattle.tables.proofs.put_table.Goals as goal
use Rattle.tables.proofs.put_table.Goals.{In-loop-q}

-- the members that the loops go over are the first d
taken : {n d : ℕ} {low : List ℕ} → Members n d low → Members n d (take d low)
taken {d = d} {low} M =
    record { few = M.few; long = omega (arith, length-take-le d low M.long); each = λ p h. rw (get_or-take d low p 0 h) (M.each p h) }

member : {n d : ℕ} {low : List ℕ} → Members n d low → (p : ℕ) → p < length (take d low) → (p < d) × (get_or (take d low) p 0 ≡ get_or low p 0)
member {d = d} {low} M p h =
    let l : p < d = omega (arith, length-take-le d low M.long) in
    (l, get_or-take d low p 0 l)

-- the cell that is next
here : (c : In-loop-q)
    → let s = c.args.c.now in
    At s.of.n s.of.k s.count s.of.cells.now (take s.count s.members) c.loop-p.p-index c.loop-a.a c.loop-q.q-index c.loop-q.to
here c =
    let s = c.args.c.now in
    at s.of.n s.of.k s.count s.of.cells.now (take s.count s.members) s.of.laid (taken s.entities) _ _ _ _ c.loop-q.invariant.0
    (member s.entities _ c.loop-p-test.true).0 (omega arith) (member s.entities _ c.loop-q-test.true).0

-- where its row stands in the matrix, up to the sender's own cell
row : (c : In-loop-q)
    → let s = c.args.c.now in
    let p = c.loop-p.p-index in
    let b = c.loop-a.a in
    At s.of.n s.of.k s.count s.of.cells.now (take s.count s.members) p b p (cell_at s.of.k s.count p b p)
row c =
    let s = c.args.c.now in
    let h = (member s.entities _ c.loop-p-test.true).0 in
    at s.of.n s.of.k s.count s.of.cells.now (take s.count s.members) s.of.laid (taken s.entities) _ _ _ _ refl h (omega arith) h

pub bounds-m-from : goal.bounds-m-from
bounds-m-from c = omega (arith, (here (goal.at.bounds-m-from c).In-loop-q).reads, (row (goal.at.bounds-m-from c).In-loop-q).reads)

pub loop-q-preserved : goal.loop-q-preserved
loop-q-preserved c =
    let s = c.args.c.now in
    let l = c.loop-q in
    let p = member s.entities _ c.loop-p-test.true in
    let q = member s.entities _ c.loop-q-test.true in
    let room : l.to < length l.table = omega (arith, (here (goal.at.loop-q-preserved c).In-loop-q).writes) in
    let is = table_cell_lem s.of.n s.of.k s.count s.of.cells.now s.members c.loop-p.p-index c.loop-a.a l.q-index l.to l.invariant.0 (omega arith) q.0 in
    (omega (arith, l.invariant.0), grown_next _ _ _ _ _ _ l.invariant.1 room (cc (is, p.1, q.1)))

pub returns : goal.returns
unfolding table_of
returns c =
    let l = c.loop-p in
    let s = c.args.c.now in
    let e : l.p-index ≡ s.count = omega (arith, length-take-le s.count s.members s.entities.long) in
    let size : l.to ≡ s.count * s.of.k * s.count = l.invariant.0 ∙ rw e (omega arith) in
    grown_whole l.invariant.1 ∙ ap (λ (i : ℕ). filled i (cells_of s) c.args.table.now) size
