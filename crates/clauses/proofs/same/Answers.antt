-- `clauses::same` meets its contract: the parts that are passed are the rows of u and v, and the three tests together are the test of alike
-- (`Clauses`). Assumes nothing.
use mathlib.Core.Path.{sym, ◌∙◌}
use native.Mathlib.Omega.{arith}
use Rattle.clauses.proofs.Clauses.{own_fails, sends_fails, treats_decides}
use Rattle.clauses.proofs.same.Goals as goal
use Rattle.clauses.proofs.same.Goals.{then-own_same, else-own_same}

pub returns-then-sends_same : goal.returns-then-sends_same
returns-then-sends_same c =
    let m = c.args.m.now in
    elim c.if-own_same.branch [
      | then-own_same w ↦
          let sent = sym w.value-is ∙ c.if-sends_same.true in
          c.receives_same.ensures
          ∙ treats_decides m.n m.k m.cells.now c.args.u c.args.v (omega arith) (omega arith) _ c.own_same.ensures _ w.sends_same.ensures w.if-own_same.true sent
      | else-own_same w ↦ absurd (cc)
    ]

pub returns-else-sends_same : goal.returns-else-sends_same
returns-else-sends_same c =
    let m = c.args.m.now in
    c.if-sends_same.false ∙ elim c.if-own_same.branch [
      | then-own_same w ↦
          let sent = sym w.value-is ∙ c.if-sends_same.false in
          sends_fails m.n m.k m.cells.now c.args.u c.args.v (omega arith) (omega arith) _ c.own_same.ensures _ w.sends_same.ensures w.if-own_same.true sent
      | else-own_same w ↦ own_fails m.n m.k m.cells.now c.args.u c.args.v (omega arith) (omega arith) _ c.own_same.ensures w.if-own_same.false
    ]
