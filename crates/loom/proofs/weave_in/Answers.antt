-- `loom::weave_in` meets its contract: the read over a buffer with room for every matrix is refused with 12 alone, and then the line is put down;
-- else the matrix stands in the buffer, and the answer to it is put down (`Answers`). Assumes nothing.
use mathlib.Core.Path.{refl}
use Prim.Native.Nat.{◌*◌}
use native.Mathlib.Omega.{arith}
use lib.ListN.{take}
use Rattle.layout.specs.Files.{MatrixFile}
use Rattle.woven.specs.Weave.{refusal_text, Woven, formed}
use Rattle.woven.proofs.Answers.{Shown, read-file, read-refused}
use Rattle.loom.proofs.weave_in.Goals as goal
use Rattle.loom.proofs.weave_in.Goals.{In-Ok, In-Err}

-- the file that was read
file : (c : In-Ok)
    → let n = c.in-Ok.sizes.n in
    let k = c.in-Ok.sizes.k in
    MatrixFile n k (take (n * k * n) c.read_matrix.new.matrix) c.args.input.now
file c = read-file _ _ _ _ _ c.in-Ok.is c.read_matrix.ensures

-- or the refusal
shown : (c : In-Err)
    → let r = c.in-Err.r in
    Shown r × Woven c.args.input.now (refusal_text r)
shown c = read-refused _ _ _ _ c.in-Err.is c.requires.0 c.read_matrix.ensures

pub put_refusal-requires : goal.put_refusal-requires
put_refusal-requires c = let r = (shown (goal.at.put_refusal-requires c).In-Err).0 in (r.number, r.place, omega arith)

pub returns-in-Ok : goal.returns-in-Ok
returns-in-Ok c =
    let f = file (goal.at.returns-in-Ok c).In-Ok in
    let put = c.put_answer.ensures in
    record { answer = _; woven = formed _ _ _ f refl; told = put.value; left = put.output_after }

pub returns-in-Err : goal.returns-in-Err
returns-in-Err c =
    let put = c.put_refusal.ensures in
    record { answer = _; woven = (shown (goal.at.returns-in-Err c).In-Err).1; told = put.value; left = put.output_after }
