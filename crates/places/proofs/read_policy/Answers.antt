-- `places::read_policy` meets its contract: each exit is one of `Exits`. Assumes nothing.
use mathlib.Core.Path.{sym, ap, ◌∙◌}
use mathlib.Core.List.{List}
use Prim.Native.Nat.{ℕ, ◌+◌}
use lib.ListN.{length}
use Rattle.readers.proofs.Steps.{stopped_at}
use Rattle.places.proofs.Exits.{policy_unheaded, policy_unnamed, policy_unfilled, policy_filled}
use Rattle.places.proofs.read_policy.Goals as goal

pub returns-in_err-sizes-clause-place : goal.returns-in_err-sizes-clause-place
returns-in_err-sizes-clause-place c =
    let s = c.new-reader.ensures in
    stopped_at c.from_residual.result _ c.from_residual.ensures.1 (policy_unheaded s.file s.at c.in_err-sizes.ensures.read)

pub returns-in_err-read_assigned-clause-place : goal.returns-in_err-read_assigned-clause-place
returns-in_err-read_assigned-clause-place c =
    let s = c.new-reader.ensures in
    let z = c.in_ok-sizes.ensures in
    stopped_at c.from_residual-in_err-read_assigned.result _ c.from_residual-in_err-read_assigned.ensures.1
    (policy_unnamed s.file s.at z.read c.in_err-read_assigned.ensures.read)

pub returns-in_err-read_records-clause-place : goal.returns-in_err-read_records-clause-place
returns-in_err-read_records-clause-place c =
    let s = c.new-reader.ensures in
    let z = c.in_ok-sizes.ensures in
    let a = c.in_ok-read_assigned.ensures in
    stopped_at c.from_residual-in_err-read_records.result _ c.from_residual-in_err-read_records.ensures.1
    (policy_unfilled s.file s.at z.read a.read c.in_err-read_records.ensures.read)

pub returns-in_err-read_close-clause-place : goal.returns-in_err-read_close-clause-place
returns-in_err-read_close-clause-place c =
    let s = c.new-reader.ensures in
    let z = c.in_ok-sizes.ensures in
    let a = c.in_ok-read_assigned.ensures in
    let all = policy_filled s.file s.at z.read a.read c.in_ok-read_records.ensures.read in
    stopped_at c.from_residual-in_err-read_close.result _ c.from_residual-in_err-read_close.ensures.1 (c.in_err-read_close.ensures.place ∙ all)

pub returns-clause-place : goal.returns-clause-place
returns-clause-place c =
    let s = c.new-reader.ensures in
    let z = c.in_ok-sizes.ensures in
    let a = c.in_ok-read_assigned.ensures in
    let all = policy_filled s.file s.at z.read a.read c.in_ok-read_records.ensures.read in
    let same = c.in_ok-read_records.ensures.file ∙ a.file ∙ z.file ∙ s.file in
    ap (λ (l : List ℕ). length l + 1) (sym same) ∙ c.in_ok-read_close.ensures.place ∙ all
