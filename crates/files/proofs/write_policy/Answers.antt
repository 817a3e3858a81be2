-- `files::write_policy` meets its contract: a refusal comes before anything is written, and where there is none the file is put.
-- Assumes nothing.
use mathlib.Core.Path.{◌≡◌, sym, ap, ◌∙◌}
use native.Mathlib.Omega.{arith}
use lib.ListN.{length}
use Rattle.std.specs.Prelude.{Ok}
use Rattle.model.specs.Laid.{granting}
use Rattle.model.specs.Policy.{policy}
use Rattle.model.specs.Refusal.{checked, over}
use Rattle.layout.specs.Text.{policy_text}
use Rattle.writable.specs.Rules.{policy_write_rules}
use Rattle.writable.proofs.Rules.{policy_enough}
use Rattle.files.proofs.Writes.{written_fine}
use Rattle.files.proofs.write_policy.Goals as goal
use Rattle.files.proofs.write_policy.Goals.{In_ok-p}

-- no rule applies
fine : (c : In_ok-p)
    → let a = c.args in checked (policy_write_rules a.n a.k (policy a.d a.assignment.now a.table.now) (length a.file.now)) ≡ Ok tt
fine c = sym c.in_ok-p.ensures.refusals

-- what the tests hand out has the file of what was lent
same : (c : In_ok-p)
    → let a = c.args in
    let p = c.in_ok-p.p in policy_text p.n p.k (granting p) ≡ policy_text a.n a.k (policy a.d a.assignment.now a.table.now)
same c = let e = c.in_ok-p.ensures.policy in λ i. policy_text (e.0 i) (e.1 i) (e.2 i)

pub put_policy-requires : goal.put_policy-requires
put_policy-requires c =
    let a = c.args in
    let P = policy a.d a.assignment.now a.table.now in
    let at = (goal.at.put_policy-requires c).In_ok-p in
    record { file_has_room = omega (arith, ap length (same at), policy_enough a.n a.k P (length a.file.now) (fine at)) }

pub returns : goal.returns
returns c =
    let at = (goal.at.returns c).In_ok-p in
    let put = c.put_policy.ensures in
    written_fine _ _ c.args.file.now _ _ (fine at) (put.value ∙ ap length (same at)) (put.file_after ∙ ap (λ t. over t c.args.file.now) (same at))
