-- `files::read_policy` meets its contract: its exits are those of `Fills`, at the numbers that the file has. Assumes nothing.
use mathlib.Core.Path.{◌≡◌, sym, ◌∙◌, subst}
use mathlib.Core.List.{List}
use Prim.Native.Nat.{ℕ, ◌*◌}
use native.Mathlib.Omega.{arith}
use lib.ListN.{length}
use Rattle.std.specs.Prelude.{Ok}
use Rattle.model.specs.declared.Fault.TheVariants.{AssignmentRoom, Room}
use Rattle.model.specs.Refusal.{checked}
use Rattle.model.specs.Rules.{room_rules}
use Rattle.model.proofs.Groups.{handed_on}
use Rattle.model.proofs.Rules.{room_fine}
use Rattle.files.specs.Read.{ReadPolicy, read_policy_told, PolicyRead}
use Rattle.files.proofs.Fills.{policy_bad, PolicyFits, policy_fits, policy_limits, policy_entities, policy_long}
use Rattle.files.proofs.Fills.{names_short, cells_short, policy_filled}
use Rattle.files.proofs.read_policy.Goals as goal
use Rattle.files.proofs.read_policy.Goals.{In_ok-sizes, In_ok-room_fits, In_ok-room_fits-2}

fits : (c : In_ok-sizes) → let z = c.in_ok-sizes.sizes in PolicyFits c.args.file.now z.n z.k z.d
fits c = let q = c.read_policy.ensures in policy_fits c.args.file.now c.read_policy.result c.in_ok-sizes.sizes q.place q.sizes c.in_ok-sizes.ensures

-- and there is room for the assignment
roomy : (c : In_ok-room_fits) → checked (room_rules AssignmentRoom (length c.args.assignment.now) c.in_ok-sizes.sizes.n) ≡ Ok tt
roomy c = sym c.room_fits.ensures ∙ c.in_ok-room_fits.was

-- and for the table
spacious : (c : In_ok-room_fits-2) → let z = c.in_ok-sizes.sizes in checked (room_rules Room (length c.args.table.now) (z.d * (z.k * z.d))) ≡ Ok tt
spacious c = sym c.room_fits-2.ensures ∙ c.in_ok-room_fits-2.was

-- that the read answers r, and leaves both buffers as they were
abbrev Answers : List ℕ → List ℕ → List ℕ → ReadPolicy → Type 0
Answers s x y r = PolicyRead s x y (read_policy_told r) x y

pub returns-in_err-sizes : goal.returns-in_err-sizes
returns-in_err-sizes c =
    let q = c.read_policy.ensures in
    let a = c.args in
    let same = handed_on _ c.from_residual.ensures.1 in
    subst (Answers a.file.now a.assignment.now a.table.now) (sym same)
    (policy_bad a.file.now a.assignment.now a.table.now c.read_policy.result _ q.place q.fault c.in_err-sizes.ensures)

pub returns-in_err-room_fits : goal.returns-in_err-room_fits
returns-in_err-room_fits c =
    let bad = sym c.room_fits.ensures ∙ c.in_err-room_fits.was in
    let same = handed_on _ c.from_residual-in_err-room_fits.ensures.1 in
    subst (Answers c.args.file.now c.args.assignment.now c.args.table.now) (sym same)
    (names_short (fits (goal.at.returns-in_err-room_fits c).In_ok-sizes) c.args.assignment.now c.args.table.now _ bad)

pub overflow_mul-k : goal.overflow_mul-k
overflow_mul-k c = omega (arith, (policy_limits (fits (goal.at.overflow_mul-k c).In_ok-sizes)).row)

pub overflow_mul-d : goal.overflow_mul-d
overflow_mul-d c = omega (arith, (policy_limits (fits (goal.at.overflow_mul-d c).In_ok-sizes)).rows)

pub returns-in_err-room_fits-2 : goal.returns-in_err-room_fits-2
returns-in_err-room_fits-2 c =
    let bad = sym c.room_fits-2.ensures ∙ c.in_err-room_fits-2.was in
    let room = roomy (goal.at.returns-in_err-room_fits-2 c).In_ok-room_fits in
    let same = handed_on _ c.from_residual-in_err-room_fits-2.ensures.1 in
    subst (Answers c.args.file.now c.args.assignment.now c.args.table.now) (sym same)
    (cells_short (fits (goal.at.returns-in_err-room_fits-2 c).In_ok-sizes) c.args.assignment.now c.args.table.now room _ bad)

pub fill_numbers-requires : goal.fill_numbers-requires
fill_numbers-requires c = (
  omega (arith, policy_long (fits (goal.at.fill_numbers-requires c).In_ok-sizes)),
  room_fine AssignmentRoom _ _ (roomy (goal.at.fill_numbers-requires c).In_ok-room_fits),
)

pub overflow_mul-n : goal.overflow_mul-n
overflow_mul-n c = omega (arith, policy_entities (fits (goal.at.overflow_mul-n c).In_ok-sizes))

pub overflow_add-n : goal.overflow_add-n
overflow_add-n c = omega (arith, policy_entities (fits (goal.at.overflow_add-n c).In_ok-sizes))

pub overflow_mul-k-2 : goal.overflow_mul-k-2
overflow_mul-k-2 c = omega (arith, (policy_limits (fits (goal.at.overflow_mul-k-2 c).In_ok-sizes)).row)

pub fill_records-requires : goal.fill_records-requires
fill_records-requires c = (
  omega (arith, policy_long (fits (goal.at.fill_records-requires c).In_ok-sizes)),
  room_fine Room _ _ (spacious (goal.at.fill_records-requires c).In_ok-room_fits-2),
)

pub returns : goal.returns
returns c =
    let room = roomy (goal.at.returns c).In_ok-room_fits in
    let space = spacious (goal.at.returns c).In_ok-room_fits-2 in
    let a = c.args in
    policy_filled (fits (goal.at.returns c).In_ok-sizes) a.assignment.now a.table.now room _ _ space c.fill_numbers.ensures c.fill_records.ensures
