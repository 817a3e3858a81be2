-- `clauses::own_same` meets its contract: what is answered for a right is its test, so `all` answers for every right. Assumes nothing.
use Rattle.std.proofs.Common.{rules}
use Rattle.clauses.specs.Clauses.{four_test}
use Rattle.clauses.proofs.Ranges.{all_told}
use Rattle.clauses.proofs.own_same.Goals as goal

pub returns : goal.returns
unfolding four_test
returns c = all_told _ _ _ _ _ c.all.ensures.ran (λ x b q h. search rules) (λ x b q h. search rules)
