-- `files::read_matrix` meets its contract: its exits are those of `Fills`, at the numbers that the file has. Assumes nothing.
use mathlib.Core.Path.{◌≡◌, sym, ◌∙◌, subst}
use mathlib.Core.List.{List}
use Prim.Native.Nat.{ℕ, ◌*◌}
use native.Mathlib.Omega.{arith}
use lib.ListN.{length}
use Rattle.std.specs.Prelude.{Ok}
use Rattle.model.specs.declared.Fault.TheVariants.{Room}
use Rattle.model.specs.Refusal.{checked}
use Rattle.model.specs.Rules.{room_rules}
use Rattle.model.proofs.Groups.{handed_on}
use Rattle.model.proofs.Rules.{room_fine}
use Rattle.files.specs.Read.{ReadMatrix, read_matrix_told, MatrixRead}
use Rattle.files.proofs.Fills.{matrix_bad, MatrixFits, matrix_fits, matrix_limits, matrix_long, matrix_short, matrix_filled}
use Rattle.files.proofs.read_matrix.Goals as goal
use Rattle.files.proofs.read_matrix.Goals.{In_ok-sizes, In_ok-room_fits}

fits : (c : In_ok-sizes) → let z = c.in_ok-sizes.sizes in MatrixFits c.args.file.now z.n z.k
fits c = let q = c.read_matrix.ensures in matrix_fits c.args.file.now c.read_matrix.result c.in_ok-sizes.sizes q.place q.sizes c.in_ok-sizes.ensures

-- and there is room
roomy : (c : In_ok-room_fits) → let z = c.in_ok-sizes.sizes in checked (room_rules Room (length c.args.matrix.now) (z.n * (z.k * z.n))) ≡ Ok tt
roomy c = sym c.room_fits.ensures ∙ c.in_ok-room_fits.was

-- that the read answers r, and leaves the matrix's buffer as it was
abbrev Answers : List ℕ → List ℕ → ReadMatrix → Type 0
Answers s x r = MatrixRead s x (read_matrix_told r) x

pub returns-in_err-sizes : goal.returns-in_err-sizes
returns-in_err-sizes c =
    let q = c.read_matrix.ensures in
    let same = handed_on _ c.from_residual.ensures.1 in
    subst (Answers c.args.file.now c.args.matrix.now) (sym same)
    (matrix_bad c.args.file.now c.args.matrix.now c.read_matrix.result _ q.place q.fault c.in_err-sizes.ensures)

pub overflow_mul-k : goal.overflow_mul-k
overflow_mul-k c = omega (arith, (matrix_limits (fits (goal.at.overflow_mul-k c).In_ok-sizes)).row)

pub overflow_mul-n : goal.overflow_mul-n
overflow_mul-n c = omega (arith, (matrix_limits (fits (goal.at.overflow_mul-n c).In_ok-sizes)).rows)

pub returns-in_err-room_fits : goal.returns-in_err-room_fits
returns-in_err-room_fits c =
    let bad = sym c.room_fits.ensures ∙ c.in_err-room_fits.was in
    let same = handed_on _ c.from_residual-in_err-room_fits.ensures.1 in
    subst (Answers c.args.file.now c.args.matrix.now) (sym same)
    (matrix_short (fits (goal.at.returns-in_err-room_fits c).In_ok-sizes) c.args.matrix.now _ bad)

pub overflow_mul-k-2 : goal.overflow_mul-k-2
overflow_mul-k-2 c = omega (arith, (matrix_limits (fits (goal.at.overflow_mul-k-2 c).In_ok-sizes)).row)

pub fill_records-requires : goal.fill_records-requires
fill_records-requires c = (
  omega (arith, matrix_long (fits (goal.at.fill_records-requires c).In_ok-sizes)),
  room_fine Room _ _ (roomy (goal.at.fill_records-requires c).In_ok-room_fits),
)

pub returns : goal.returns
returns c =
    matrix_filled (fits (goal.at.returns c).In_ok-sizes) c.args.matrix.now _ (roomy (goal.at.returns c).In_ok-room_fits) c.fill_records.ensures
