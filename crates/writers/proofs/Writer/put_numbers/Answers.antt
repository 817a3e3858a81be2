-- `writers::Writer::put_numbers` meets its contract. The invariant: the numbers so far are written, two digits each. Assumes nothing.
use native.Mathlib.Omega.{arith}
use Rattle.writers.proofs.Writes.{no_piece, one_piece_more}
use Rattle.writers.proofs.Writer.put_numbers.Goals as goal
use Rattle.writers.proofs.Writer.put_numbers.Invariants.{digits}

pub loop-x-init : goal.loop-x-init
loop-x-init c = let a = c.args in record { written = no_piece (digits a.numbers.now) a.self.now; ends = omega arith }

pub loop-x-preserved : goal.loop-x-preserved
loop-x-preserved c = record {
  written = one_piece_more (digits c.args.numbers.now) c.loop-x.x-index c.loop-x.invariant.written c.put_number.ensures;
  ends = omega arith;
}
