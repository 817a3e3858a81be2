-- `build::build` meets its contract: where a rule before the last applies nothing was written; past them the classes are found, and
-- `write` gives the last refusal or writes the built policy (`Exits`). Assumes nothing.
use mathlib.Core.Path.{◌≡◌, sym, ◌∙◌, subst}
use mathlib.Core.List.{List}
use Prim.Native.Nat.{ℕ}
use lib.ListN.{length}
use Rattle.std.specs.Prelude.{Ok}
use Rattle.model.specs.declared.Fault.TheVariants.{AssignmentRoom}
use Rattle.model.specs.Refusal.{checked}
use Rattle.model.specs.Rules.{room_rules}
use Rattle.model.proofs.Groups.{handed_on}
use Rattle.model.proofs.Rules.{room_fine}
use Rattle.build.specs.Build.{Built, Builds}
use Rattle.build.proofs.Exits.{whole_bad, room_bad, wrote}
use Rattle.build.proofs.build.Goals as goal
use Rattle.build.proofs.build.Goals.{In_ok-m, In_ok-room_fits}

-- there is room for the assignment
room : (c : In_ok-room_fits) → let a = c.args in Ok tt ≡ checked (room_rules AssignmentRoom (length a.assignment.now) a.n)
room c = sym c.in_ok-room_fits.was ∙ c.room_fits.ensures

-- that the build answers r, and leaves both buffers as they were
abbrev Answers : (n k : ℕ) (m s t : List ℕ) → Built → Type 0
Answers n k m s t r = Builds n k m s t r s t

pub returns-in_err-m : goal.returns-in_err-m
returns-in_err-m c =
    let a = c.args in
    let same = handed_on c.from_residual.result c.from_residual.ensures.1 in
    subst (Answers a.n a.k a.matrix.now a.assignment.now a.table.now) (sym same)
    (whole_bad a.n a.k a.matrix.now a.assignment.now a.table.now _ c.in_err-m.ensures.refusals)

pub returns-in_err-room_fits : goal.returns-in_err-room_fits
returns-in_err-room_fits c =
    let a = c.args in
    let same = handed_on c.from_residual-in_err-room_fits.result c.from_residual-in_err-room_fits.ensures.1 in
    subst (Answers a.n a.k a.matrix.now a.assignment.now a.table.now) (sym same)
    (room_bad a.n a.k a.matrix.now a.assignment.now a.table.now c.in_ok-m.ensures.refusals _ (sym c.in_err-room_fits.was ∙ c.room_fits.ensures))

pub write-requires : goal.write-requires
write-requires c =
    let a = c.args in
    rw (c.classify.ensures.matrix, c.in_ok-m.ensures.matrix.0) (room_fine AssignmentRoom _ a.n (sym (room (goal.at.write-requires c).In_ok-room_fits)))

pub returns : goal.returns
returns c =
    let a = c.args in
    let q = c.classify.ensures in
    let p = c.write.ensures in
    let is = c.in_ok-m.ensures.matrix in
    wrote a.n a.k a.matrix.now a.assignment.now a.table.now c.in_ok-m.ensures.refusals (room (goal.at.returns c).In_ok-room_fits)
    _ _ _ _ _ (rw (is.0, is.1, is.2) at q.count) (rw (is.0, is.1, is.2) at q.domains) (rw (is.0, is.1, is.2) at q.members) _ _ _
    (rw (q.matrix, is.1) at p.result_value) (rw (q.matrix, is.0, is.1) at p.assignment_after) (rw (q.matrix, is.0, is.1, is.2) at p.table_after)
