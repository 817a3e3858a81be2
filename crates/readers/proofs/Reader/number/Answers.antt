-- `readers::Reader::number` meets its contract: each exit is a case of the ten or of the unit. Assumes nothing.
use mathlib.Core.Path.{refl}
use native.Mathlib.Omega.{arith}
use Rattle.readers.proofs.Steps.{gives_up}
use Rattle.readers.proofs.Exits.{number_out, ten_off, unit_out, unit_off, number_on}
use Rattle.readers.proofs.Reader.number.Goals as goal
use Rattle.readers.proofs.Reader.number.Goals.{then-hi-ten-via-then-hi-ten, then-hi-ten-via-else-hi-ten+then-ten-lo}
use Rattle.readers.proofs.Reader.number.Goals.{then-unit-ge10-via-then-unit-ge10, then-unit-ge10-via-else-unit-ge10+then-ten-unit}
use Rattle.readers.proofs.Reader.number.Goals.{then-unit-ge10-via-else-unit-ge10+else-ten-unit+then-hi-ten-2}

pub returns-in_err-ten-clause-read : goal.returns-in_err-ten-clause-read
returns-in_err-ten-clause-read c =
    let out = c.in_err-ten.ensures in
    gives_up c.from_residual.result _ _ c.from_residual.ensures.1 (rw out.0 (number_out _ _ c.args.self.now (omega arith)))

pub returns-then-hi-ten-clause-read : goal.returns-then-hi-ten-clause-read
returns-then-hi-ten-clause-read c =
    let ten = c.in_ok-ten.ensures in
    ten_off _ _ _ _ ten.0 ten.1 (λ a b. elim c.then-hi-ten.branch [
      | then-hi-ten-via-then-hi-ten w ↦ omega arith
      | then-hi-ten-via-else-hi-ten+then-ten-lo w ↦ omega arith
    ])

pub returns-in_err-unit-clause-read : goal.returns-in_err-unit-clause-read
returns-in_err-unit-clause-read c =
    let ten = c.in_ok-ten.ensures in
    let out = c.in_err-unit.ensures in
    gives_up c.from_residual-in_err-unit.result _ _ c.from_residual-in_err-unit.ensures.1
    (rw out.0 (unit_out _ _ _ _ ten.0 ten.1 (omega arith) (omega arith) (omega arith)))

pub returns-then-unit-ge10-clause-read : goal.returns-then-unit-ge10-clause-read
returns-then-unit-ge10-clause-read c =
    let ten = c.in_ok-ten.ensures in
    let unit = c.in_ok-unit.ensures in
    unit_off _ _ _ _ ten.0 ten.1 (omega arith) (omega arith) _ unit.0 unit.1 (λ a b d. elim c.then-unit-ge10.branch [
      | then-unit-ge10-via-then-unit-ge10 w ↦ omega arith
      | then-unit-ge10-via-else-unit-ge10+then-ten-unit w ↦ omega arith
      | then-unit-ge10-via-else-unit-ge10+else-ten-unit+then-hi-ten-2 w ↦ omega arith
    ])

pub returns-clause-read : goal.returns-clause-read
returns-clause-read c =
    let ten = c.in_ok-ten.ensures in
    let unit = c.in_ok-unit.ensures in
    number_on _ _ _ _ ten.0 ten.1 (omega arith) (omega arith) _ unit.0 unit.1 refl refl (omega arith) (omega arith) (omega arith)
