-- `clauses::line_same` meets its contract: what is answered for a receiver is its test, so `all` answers for every receiver. Assumes nothing.
use Rattle.std.proofs.Common.{rules}
use Rattle.clauses.specs.Clauses.{but_test}
use Rattle.clauses.proofs.Ranges.{all_told}
use Rattle.clauses.proofs.line_same.Goals as goal

pub returns : goal.returns
unfolding but_test
returns c = all_told _ _ _ _ _ c.all.ensures.ran (λ x b q h. search rules) (λ x b q h. search rules)
