-- `lines::same_columns` meets its contract: the answers at each line are the test. All lines are inside, since the matrix has n·k.
-- Assumes nothing.
use Rattle.std.proofs.Common.{length, rules, arith}
use Rattle.lines.proofs.Lines.{agree_told, line, Line}
use Rattle.lines.proofs.same_columns.Goals as goal

pub all_same-requires-clause-callable : goal.all_same-requires-clause-callable
all_same-requires-clause-callable c = λ j h.
    let m = c.args.m.now in
    let p : Line m.n (length m.cells.now) j c.args.u = line m.laid (omega arith) c.requires.0 in
    let q : Line m.n (length m.cells.now) j c.args.v = line m.laid (omega arith) c.requires.1 in
    search rules

pub returns : goal.returns
returns c = agree_told _ _ _ _ c.all_same.ensures (λ j y. search rules) (λ j y. search rules)
