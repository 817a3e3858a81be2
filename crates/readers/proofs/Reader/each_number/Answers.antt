-- `readers::Reader::each_number` meets its contract: a number is a piece, whatever its value. Assumes nothing.
use mathlib.Core.Path.{◌≡◌, refl, ◌∙◌}
use native.Mathlib.Omega.{arith}
use Rattle.layout.specs.Layout.{number, numbers}
use Rattle.readers.proofs.Steps.{read_none, read_on, read_off, gives_up}
use Rattle.readers.proofs.Reader.each_number.Goals as goal

pub loop-init : goal.loop-init
loop-init c = record { same = refl; read = read_none _ 2 (λ _ F. number 0 c.args.hi (λ _. F)) }

pub returns-in_err-number-clause-read : goal.returns-in_err-number-clause-read
unfolding numbers
returns-in_err-number-clause-read c =
    let i = c.loop.invariant in
    let f = c.in_err-number.ensures.read in
    gives_up c.from_residual.result _ _ c.from_residual.ensures.1 (read_off (λ _ F. number 0 c.args.hi (λ _. F)) i.read c.args.n i.same (omega arith) record {
      short = f.short;
      inside = f.inside;
      stops = λ F. f.stops (λ _. F);
    })

pub loop-preserved : goal.loop-preserved
loop-preserved c =
    let i = c.loop.invariant in
    let w = c.in_ok-number.ensures.read in record {
      same = c.number.ensures.file ∙ i.same;
      read = read_on (λ _ F. number 0 c.args.hi (λ _. F)) i.read record { stands = w.stands; goes = λ F. w.goes (λ _. F) };
    }

pub returns-clause-read : goal.returns-clause-read
unfolding numbers
returns-clause-read c = let same : c.loop.counter ≡ c.args.n = omega arith in rw same at c.loop.invariant.read
