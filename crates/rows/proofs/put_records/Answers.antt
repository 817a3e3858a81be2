-- `rows::put_records` meets its contract. The invariant: the first u records are written. Assumes nothing.
use native.Mathlib.Omega.{arith}
use Rattle.layout.specs.Text.{record_text}
use Rattle.writers.proofs.Writes.{no_piece, one_piece_more}
use Rattle.rows.proofs.put_records.Goals as goal

pub loop-u-init : goal.loop-u-init
loop-u-init c = let a = c.args in record { written = no_piece (record_text a.mark.now a.w a.cells.now) a.out.now; ends = omega arith }

pub loop-u-preserved : goal.loop-u-preserved
loop-u-preserved c =
    let a = c.args in record {
      written = one_piece_more (record_text a.mark.now a.w a.cells.now) c.loop-u.u c.loop-u.invariant.written c.put_record.ensures.written;
      ends = omega arith;
    }
