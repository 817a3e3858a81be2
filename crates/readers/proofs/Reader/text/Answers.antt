-- `readers::Reader::text` meets its contract: each exit is one of `Exits`. Assumes nothing.
use mathlib.Core.Path.{refl}
use native.Mathlib.Omega.{arith}
use Rattle.readers.proofs.Steps.{read_none, gives_up}
use Rattle.readers.proofs.Exits.{letter, text_all, text_on, text_out, text_off}
use Rattle.readers.proofs.Reader.text.Goals as goal

pub loop-x-init : goal.loop-x-init
loop-x-init c = record { same = refl; letters = read_none _ 1 (letter c.args.mark.now) }

pub returns-in_err-peek-clause-read : goal.returns-in_err-peek-clause-read
returns-in_err-peek-clause-read c =
    let i = c.loop-x.invariant in
    let out = c.in_err-peek.ensures in
    gives_up c.from_residual.result _ _ c.from_residual.ensures.1
    (rw out.0 (text_out c.args.mark.now _ i.letters i.same (omega arith) (omega arith)))

pub returns-then-branch-x-clause-read : goal.returns-then-branch-x-clause-read
returns-then-branch-x-clause-read c =
    let i = c.loop-x.invariant in
    text_off c.args.mark.now _ i.letters i.same (omega arith) (omega arith) (λ e. omega arith)

pub loop-x-preserved : goal.loop-x-preserved
loop-x-preserved c = record {
  same = c.loop-x.invariant.same;
  letters = text_on c.args.mark.now _ c.loop-x.invariant.letters refl refl (omega arith) (omega arith);
}

pub returns-clause-read : goal.returns-clause-read
returns-clause-read c = text_all c.args.mark.now _ c.loop-x.invariant.letters (omega arith)
