-- `rows::put_record` meets its contract: its four texts stand one behind the other, and its cells are a part of all cells. Assumes nothing.
use mathlib.Core.Path.{subst}
use mathlib.Core.List.{[], ◌∷◌}
use Prim.Native.Nat.{◌*◌}
use native.Mathlib.Omega.{arith}
use Rattle.layout.specs.Text.{two}
use Rattle.writers.specs.Writes.{Writes}
use Rattle.writers.proofs.Parts.{part_text}
use Rattle.writers.proofs.Writes.{behind}
use Rattle.rows.proofs.put_record.Goals as goal

pub returns-clause-written : goal.returns-clause-written
returns-clause-written c =
    let a = c.args in
    let part = part_text a.cells.now (a.u * a.w) a.w (omega arith) in
    let cells = subst (Writes c.put_number.new.self c.put_cells.new.self) part c.put_cells.ensures.written in
    behind _ (10 ∷ []) (behind a.mark.now _ c.put.ensures (behind (two a.u) _ c.put_number.ensures cells)) c.put-2.ensures
