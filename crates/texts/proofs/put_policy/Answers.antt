-- `texts::put_policy` meets its contract: the two first lines, the records and the last line stand one behind the other.
-- Assumes nothing.
use mathlib.Core.Path.{◌≡◌, ap}
use Prim.Native.Nat.{◌+◌, ◌*◌, ◌≤◌}
use native.Mathlib.Nat.{mul_assoc}
use native.Mathlib.Omega.{arith}
use lib.ListN.{length}
use Rattle.model.specs.Laid.{granting}
use Rattle.model.specs.Refusal.{over}
use Rattle.layout.specs.Text.{ZZ, line, policy_text}
use Rattle.layout.proofs.Contents.{policy_length}
use Rattle.writers.specs.Writes.{Writes}
use Rattle.writers.proofs.Writes.{behind, whole}
use Rattle.texts.proofs.put_policy.Goals as goal
use Rattle.texts.proofs.put_policy.Goals.{After-new-out, After-put_close}

-- the room that there is
room : (c : After-new-out)
    → let p = c.args.p.now in 14 + p.n * 2 + p.domains * (p.k * p.domains + 5) ≤ length c.new-out.result.buffer.now
room c =
    let p = c.args.p.now in
    let long = policy_length p.n p.k (granting p) in
    omega (arith, long, ap length c.new-out.ensures.untouched, c.requires.file_has_room)

pub put_head-requires : goal.put_head-requires
put_head-requires c = omega (arith, room (goal.at.put_head-requires c).After-new-out)

pub put_assigned-requires : goal.put_assigned-requires
put_assigned-requires c = omega (arith, room (goal.at.put_assigned-requires c).After-new-out)

pub put_records-requires : goal.put_records-requires
put_records-requires c =
    let p = c.args.p.now in
    let f = p.within in
    let cells = mul_assoc p.domains p.k p.domains in
    let w = room (goal.at.put_records-requires c).After-new-out in
    (omega (arith, f.few), omega (arith, w), omega (arith, f.valid.size, cells))

pub put_close-requires : goal.put_close-requires
put_close-requires c = omega (arith, room (goal.at.put_close-requires c).After-new-out)

text : (c : After-put_close)
    → let p = c.args.p.now in Writes c.new-out.result c.put_close.new.out (policy_text p.n p.k (granting p))
unfolding policy_text
text c = behind _ _ c.put_head.ensures (behind _ _ c.put_assigned.ensures.written (behind _ (line ZZ) c.put_records.ensures.written c.put_close.ensures))

pub returns-clause-value : goal.returns-clause-value
returns-clause-value c = omega (arith, (text (goal.at.returns-clause-value c).After-put_close).moved)

pub returns-clause-file_after : goal.returns-clause-file_after
returns-clause-file_after c =
    let p = c.args.p.now in
    let new = c.new-out.ensures in
    let all = text (goal.at.returns-clause-file_after c).After-put_close in
    let same = all.same_buffer in
    let file : c.put_close.new.out.buffer.now ≡ over (policy_text p.n p.k (granting p)) c.args.file.now =
    whole _ c.args.file.now new.untouched new.at_start c.requires.file_has_room all in
    grind (arith, same, file)
