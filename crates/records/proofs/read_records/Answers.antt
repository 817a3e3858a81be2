-- `records::read_records` meets its contract: a turn reads a record. Assumes nothing.
use mathlib.Core.Path.{◌≡◌, refl, ◌∙◌}
use Prim.Native.Nat.{◌+◌}
use native.Mathlib.Omega.{arith}
use Rattle.layout.specs.Layout.{record_of, records}
use Rattle.readers.proofs.Steps.{read_none, read_on, read_off, gives_up}
use Rattle.records.proofs.read_records.Goals as goal

pub loop-u-init : goal.loop-u-init
loop-u-init c = let a = c.args in record { same = refl; read = read_none _ (a.w + 5) (record_of a.mark.now a.lim a.w) }

pub returns-in_err-read_record-clause-read : goal.returns-in_err-read_record-clause-read
unfolding records
returns-in_err-read_record-clause-read c =
    let a = c.args in
    let i = c.loop-u.invariant in
    gives_up c.from_residual.result _ _ c.from_residual.ensures.1
    (read_off (record_of a.mark.now a.lim a.w) i.read a.c i.same (omega arith) c.in_err-read_record.ensures.read)

pub loop-u-preserved : goal.loop-u-preserved
loop-u-preserved c =
    let a = c.args in
    let i = c.loop-u.invariant in
    let r = c.in_ok-read_record.ensures in
    record { same = r.file ∙ i.same; read = read_on (record_of a.mark.now a.lim a.w) i.read r.read }

pub returns-clause-read : goal.returns-clause-read
unfolding records
returns-clause-read c = let all : c.loop-u.u ≡ c.args.c = omega arith in rw all at c.loop-u.invariant.read
