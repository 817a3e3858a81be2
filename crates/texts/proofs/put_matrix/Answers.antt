-- `texts::put_matrix` meets its contract: the first line, the records and the last line stand one behind the other. Assumes nothing.
use mathlib.Core.Path.{◌≡◌, ap}
use mathlib.Core.List.{[], ◌∷◌}
use Prim.Native.Nat.{◌+◌, ◌*◌, ◌≤◌}
use native.Mathlib.Nat.{mul_assoc}
use native.Mathlib.Omega.{arith}
use lib.ListN.{length}
use Rattle.model.specs.Refusal.{over}
use Rattle.layout.specs.Text.{ZZ, line, matrix_text}
use Rattle.layout.proofs.Contents.{matrix_length}
use Rattle.writers.specs.Writes.{Writes}
use Rattle.writers.proofs.Writes.{behind, whole}
use Rattle.texts.proofs.put_matrix.Goals as goal
use Rattle.texts.proofs.put_matrix.Goals.{After-new-out, After-put_close}

-- the room that there is
room : (c : After-new-out) → let a = c.args in 9 + a.n * (a.k * a.n + 5) ≤ length c.new-out.result.buffer.now
room c =
    let a = c.args in
    omega (arith, matrix_length a.n a.k a.matrix.now, ap length c.new-out.ensures.untouched, c.requires.file_has_room)

pub put_sizes-requires : goal.put_sizes-requires
put_sizes-requires c =
    let l = c.requires.holds.laid in
    (omega (arith, l.entities), omega (arith, l.rights), omega (arith, room (goal.at.put_sizes-requires c).After-new-out))

pub put-requires : goal.put-requires
put-requires c = omega (arith, room (goal.at.put-requires c).After-new-out)

pub put_records-requires : goal.put_records-requires
put_records-requires c =
    let l = c.requires.holds.laid in
    let cells = mul_assoc c.args.n c.args.k c.args.n in
    (omega (arith, l.entities), omega (arith, room (goal.at.put_records-requires c).After-new-out), omega (arith, l.size, cells))

pub put_close-requires : goal.put_close-requires
put_close-requires c = omega (arith, room (goal.at.put_close-requires c).After-new-out)

text : (c : After-put_close) → let a = c.args in Writes c.new-out.result c.put_close.new.out (matrix_text a.n a.k a.matrix.now)
unfolding matrix_text
text c = behind _ _ (behind _ (10 ∷ []) c.put_sizes.ensures c.put.ensures) (behind _ (line ZZ) c.put_records.ensures.written c.put_close.ensures)

pub returns-clause-value : goal.returns-clause-value
returns-clause-value c = omega (arith, (text (goal.at.returns-clause-value c).After-put_close).moved)

pub returns-clause-file_after : goal.returns-clause-file_after
returns-clause-file_after c =
    let a = c.args in
    let new = c.new-out.ensures in
    let all = text (goal.at.returns-clause-file_after c).After-put_close in
    let same = all.same_buffer in
    let file : c.put_close.new.out.buffer.now ≡ over (matrix_text a.n a.k a.matrix.now) a.file.now =
    whole _ a.file.now new.untouched new.at_start c.requires.file_has_room all in
    grind (arith, same, file)
