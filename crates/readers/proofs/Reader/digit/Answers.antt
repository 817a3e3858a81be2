-- `readers::Reader::digit` meets its contract: each exit is one of `Exits`. Assumes nothing.
use mathlib.Core.Path.{refl}
use native.Mathlib.Omega.{arith}
use Rattle.readers.proofs.Steps.{gives_up}
use Rattle.readers.proofs.Exits.{digit_out, digit_off, digit_on}
use Rattle.readers.proofs.Reader.digit.Goals as goal
use Rattle.readers.proofs.Reader.digit.Goals.{then-x-lo-via-then-x-lo, then-x-lo-via-else-x-lo+then-hi-x}

pub returns-in_err-x-clause-read : goal.returns-in_err-x-clause-read
returns-in_err-x-clause-read c =
    let out = c.in_err-x.ensures in
    gives_up c.from_residual.result _ _ c.from_residual.ensures.1 (rw out.0 (digit_out _ _ c.args.self.now (omega arith)))

pub returns-then-x-lo-clause-read : goal.returns-then-x-lo-clause-read
returns-then-x-lo-clause-read c =
    let x = c.in_ok-x.ensures in
    digit_off _ _ _ _ x.0 x.1 (λ l h. elim c.then-x-lo.branch [
      | then-x-lo-via-then-x-lo w ↦ omega arith
      | then-x-lo-via-else-x-lo+then-hi-x w ↦ omega arith
    ])

pub returns-clause-read : goal.returns-clause-read
returns-clause-read c = let x = c.in_ok-x.ensures in digit_on _ _ _ _ x.0 x.1 refl refl (omega arith) (omega arith)
