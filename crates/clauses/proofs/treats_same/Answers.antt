-- `clauses::treats_same` meets its contract: u and v are passed over, and for any other what is answered for a right is its test.
-- Assumes nothing.
use mathlib.Core.Path.{sym, ◌∙◌}
use Rattle.std.proofs.Common.{rules}
use Rattle.clauses.specs.Clauses.{but_test}
use Rattle.clauses.proofs.Exits.{but_other}
use Rattle.clauses.proofs.Ranges.{all_told}
use Rattle.clauses.proofs.treats_same.Goals as goal

pub returns-then-x-v : goal.returns-then-x-v
unfolding but_test
returns-then-x-v c = search rules

pub returns-else-x-v : goal.returns-else-x-v
returns-else-x-v c =
    all_told _ _ _ _ _ c.all.ensures.ran (λ x b q h. search rules) (λ x b q h. search rules) ∙ sym (but_other _ _ _ _ c.if-x-v.false.0 c.if-x-v.false.1)
