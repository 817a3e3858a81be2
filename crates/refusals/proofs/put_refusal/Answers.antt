-- `refusals::put_refusal` meets its contract: its six pieces are the line of the refusal. Assumes nothing.
use mathlib.Core.Path.{◌≡◌}
use mathlib.Core.List.{[], ◌∷◌}
use Prim.Native.Nat.{◌/◌}
use native.Mathlib.Omega.{arith}
use Rattle.model.specs.Refusal.{number_of, over}
use Rattle.layout.specs.Text.{one, two}
use Rattle.woven.specs.Weave.{NO, refusal_text}
use Rattle.writers.specs.Writes.{Writes}
use Rattle.writers.proofs.Writes.{behind, whole}
use Rattle.refusals.proofs.put_refusal.Goals as goal
use Rattle.refusals.proofs.put_refusal.Goals.{After-put-2}

text : (c : After-put-2) → Writes c.new-out.result c.put-2.new.self (refusal_text c.args.r)
unfolding refusal_text
text c =
    let r = c.args.r in
    let number = rw c.number.ensures at c.put_number.ensures in
    let place = behind (one (r.place / 10000)) _ c.put_digit.ensures (behind _ _ c.put_number-2.ensures c.put_number-3.ensures) in
    behind _ (10 ∷ []) (behind NO _ c.put.ensures (behind (two (number_of r.fault)) _ number place)) c.put-2.ensures

pub returns-clause-value : goal.returns-clause-value
returns-clause-value c = omega (arith, (text (goal.at.returns-clause-value c).After-put-2).moved)

pub returns-clause-output_after : goal.returns-clause-output_after
unfolding refusal_text
returns-clause-output_after c =
    let a = c.args in
    let new = c.new-out.ensures in
    let all = text (goal.at.returns-clause-output_after c).After-put-2 in
    let same = all.same_buffer in
    let output : c.put-2.new.self.buffer.now ≡ over (refusal_text a.r) a.output.now =
    whole _ a.output.now new.untouched new.at_start c.requires.2 all in
    grind (arith, same, output)
