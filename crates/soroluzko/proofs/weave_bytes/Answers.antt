-- `soroluzko::weave_bytes` meets its contract: the room for every answer is known before anything is written, and then the answer is put down.
-- Assumes nothing.
use mathlib.Core.Path.{◌≡◌, sym, ◌∙◌, subst}
use mathlib.Core.List.{List}
use Prim.Native.Nat.{ℕ}
use lib.ListN.{length}
use Rattle.std.specs.Prelude.{Ok}
use Rattle.model.specs.declared.Fault.TheVariants.{Room}
use Rattle.model.specs.Refusal.{checked}
use Rattle.model.specs.Rules.{room_rules}
use Rattle.model.proofs.Groups.{handed_on}
use Rattle.model.proofs.Rules.{room_fine}
use Rattle.files.proofs.Writes.{written_bad, written_fine}
use Rattle.files.specs.Write.{Wrote}
use Rattle.woven.specs.Weave.{longest, Weaves}
use Rattle.woven.proofs.Claims.{woven_total}
use Rattle.soroluzko.proofs.weave_bytes.Goals as goal
use Rattle.soroluzko.proofs.weave_bytes.Goals.{In_ok-room_fits}

roomy : (c : In_ok-room_fits) → checked (room_rules Room (length c.args.output.now) longest) ≡ Ok tt
roomy c = sym c.room_fits.ensures ∙ c.in_ok-room_fits.was

-- that the weave answers r, and leaves the output as it was
abbrev Answers : List ℕ → List ℕ → Wrote → Type 0
Answers s o r = Weaves s o r o

pub returns-in_err-room_fits : goal.returns-in_err-room_fits
returns-in_err-room_fits c =
    let a = c.args in
    let bad = sym c.room_fits.ensures ∙ c.in_err-room_fits.was in
    let (t, w) = woven_total a.input.now in
    let same = handed_on c.from_residual.result c.from_residual.ensures.1 in
    subst (Answers a.input.now a.output.now) (sym same)
    (t, w, written_bad (room_rules Room (length a.output.now) longest) t a.output.now _ bad)

pub weave-requires : goal.weave-requires
weave-requires c = room_fine Room _ longest (roomy (goal.at.weave-requires c).In_ok-room_fits)

pub returns : goal.returns
returns c =
    let out = c.args.output.now in
    let q = c.weave.ensures in
    (q.answer, q.woven, written_fine (room_rules Room (length out) longest) q.answer out _ _ (roomy (goal.at.returns c).In_ok-room_fits) q.told q.left)
