-- `clauses::receives_same` meets its contract: the part that is passed is the sender's row, so what is answered for a sender is its test.
-- Assumes nothing.
use mathlib.Core.Path.{sym}
use Rattle.std.proofs.Common.{rules}
use Rattle.std.proofs.lemmas.Iterator.{serves_from_Range}
use Rattle.model.proofs.Rows.{inside, row_told}
use Rattle.clauses.specs.Clauses.{treats_test}
use Rattle.clauses.proofs.Ranges.{all_told}
use Rattle.clauses.proofs.receives_same.Goals as goal

pub all-requires-clause-callable : goal.all-requires-clause-callable
all-requires-clause-callable c = serves_from_Range (λ x q h. search rules) (λ x h l. let i = inside c.args.m.now.laid l in search rules)

pub returns : goal.returns
returns c =
    let a = c.args in
    let m = a.m.now in
    all_told _ _ _ _ _ c.all.ensures.ran (λ x b q h. search rules)
    (λ x b q h. sym (row_told m.n m.k m.cells.now x (λ t. treats_test m.n m.k t a.u a.v x) b (search rules)))
