-- `loom::put_answer` meets its contract: the build over buffers with room for every policy is refused with 4 alone, and then the line is put
-- down; else what stands in the buffers is the built policy, and its file is put down (`Answers`). Assumes nothing.
use mathlib.Core.Path.{◌≡◌}
use native.Mathlib.Omega.{arith}
use Rattle.woven.specs.Weave.{refusal_text, answer_text}
use Rattle.woven.proofs.Answers.{put_same, Stands, built-stands, Shown, built-refused}
use Rattle.loom.proofs.put_answer.Goals as goal
use Rattle.loom.proofs.put_answer.Goals.{In-Ok, In-Err}

-- the policy that stands in the buffers
stands : (c : In-Ok)
    → let a = c.args in
    Stands a.n a.k a.matrix.now c.in-Ok.d c.build.new.assignment c.build.new.table
stands c =
    let room = c.requires.in_bounds in
    built-stands c.requires.holds _ _ _ _ room.0 room.1 _ c.in-Ok.is c.build.ensures

-- or the refusal
shown : (c : In-Err)
    → let a = c.args in
    let r = c.in-Err.r in
    Shown r × (refusal_text r ≡ answer_text a.n a.k a.matrix.now)
shown c =
    let room = c.requires.in_bounds in
    built-refused c.requires.holds _ _ _ _ room.0 room.1 _ c.in-Err.is c.build.ensures

pub overflow_mul-p : goal.overflow_mul-p
overflow_mul-p c = omega (arith, (stands (goal.at.overflow_mul-p c).In-Ok).small.rows)

pub overflow_mul-p-in-Ok : goal.overflow_mul-p-in-Ok
overflow_mul-p-in-Ok c = omega (arith, (stands (goal.at.overflow_mul-p-in-Ok c).In-Ok).small.cells)

pub slice_bounds-p-end-in-Ok-2 : goal.slice_bounds-p-end-in-Ok-2
slice_bounds-p-end-in-Ok-2 c = omega (arith, (stands (goal.at.slice_bounds-p-end-in-Ok-2 c).In-Ok).small.cells)

pub slice_bounds-p-end-in-Ok-3 : goal.slice_bounds-p-end-in-Ok-3
slice_bounds-p-end-in-Ok-3 c = (stands (goal.at.slice_bounds-p-end-in-Ok-3 c).In-Ok).size

pub invariant_of-p : goal.invariant_of-p
invariant_of-p c = record { within = (stands (goal.at.invariant_of-p c).In-Ok).within }

pub put_policy-requires : goal.put_policy-requires
put_policy-requires c =
    let w = stands (goal.at.put_policy-requires c).In-Ok in
    record { file_has_room = omega (arith, w.enough) }

pub put_refusal-requires : goal.put_refusal-requires
put_refusal-requires c = let r = (shown (goal.at.put_refusal-requires c).In-Err).0 in (r.number, r.place, omega arith)

pub returns-in-Ok-clause-value : goal.returns-in-Ok-clause-value
returns-in-Ok-clause-value c =
    let put = c.put_policy.ensures in
    (put_same c.args.output.now (stands (goal.at.returns-in-Ok-clause-value c).In-Ok).answer (put.value, put.file_after)).0

pub returns-in-Ok-clause-output_after : goal.returns-in-Ok-clause-output_after
returns-in-Ok-clause-output_after c =
    let put = c.put_policy.ensures in
    (put_same c.args.output.now (stands (goal.at.returns-in-Ok-clause-output_after c).In-Ok).answer (put.value, put.file_after)).1

pub returns-in-Err-clause-value : goal.returns-in-Err-clause-value
returns-in-Err-clause-value c =
    let put = c.put_refusal.ensures in
    (put_same c.args.output.now (shown (goal.at.returns-in-Err-clause-value c).In-Err).1 (put.value, put.output_after)).0

pub returns-in-Err-clause-output_after : goal.returns-in-Err-clause-output_after
returns-in-Err-clause-output_after c =
    let put = c.put_refusal.ensures in
    (put_same c.args.output.now (shown (goal.at.returns-in-Err-clause-output_after c).In-Err).1 (put.value, put.output_after)).1
