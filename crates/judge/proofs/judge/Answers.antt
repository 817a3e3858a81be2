-- `judge::judge` meets its contract: what the rules refuse is told; past them the policy and the matrix are as the scan takes them, and
-- what it finds decides the verdict (`Exits`). Assumes nothing.
use mathlib.Core.Path.{◌≡◌, refl, sym, ◌∙◌}
use Rattle.std.specs.Prelude.{Ok}
use Rattle.model.specs.Policy.{policy}
use Rattle.model.specs.Refusal.{checked}
use Rattle.judge.specs.Judge.{judge_rules}
use Rattle.judge.proofs.Exits.{judgeable, conflicts, enforces}
use Rattle.judge.proofs.judge.Goals as goal
use Rattle.judge.proofs.judge.Goals.{In_ok-judge_fits}

fine : (c : In_ok-judge_fits) → let a = c.args in checked (judge_rules a.n a.k a.matrix.now (policy a.d a.assignment.now a.table.now)) ≡ Ok tt
fine c = sym c.judge_fits.ensures ∙ c.in_ok-judge_fits.was

pub invariant_of-m : goal.invariant_of-m
invariant_of-m c =
    let a = c.args in
    let P = policy a.d a.assignment.now a.table.now in
    record { laid = (judgeable a.n a.k a.matrix.now P (fine (goal.at.invariant_of-m c).In_ok-judge_fits)).0.laid }

pub invariant_of-p : goal.invariant_of-p
invariant_of-p c =
    let a = c.args in
    let P = policy a.d a.assignment.now a.table.now in
    record { within = (judgeable a.n a.k a.matrix.now P (fine (goal.at.invariant_of-p c).In_ok-judge_fits)).1 }

pub returns-in_default : goal.returns-in_default
returns-in_default c =
    let a = c.args in
    let P = policy a.d a.assignment.now a.table.now in
    enforces a.n a.k a.matrix.now P (fine (goal.at.returns-in_default c).In_ok-judge_fits) _ c.in_default.ensures.first refl

pub returns : goal.returns
returns c =
    let a = c.args in
    let P = policy a.d a.assignment.now a.table.now in
    conflicts a.n a.k a.matrix.now P (fine (goal.at.returns c).In_ok-judge_fits) _ c.in-Some.ensures.first c.in-Some.ensures.inside
