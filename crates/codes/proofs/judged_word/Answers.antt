-- `codes::judged_word` meets its contract: what the answer has has room in its fields, so no sum wraps. Assumes nothing.
use borrow.Author.Rules.{rules}
use Rattle.std.specs.Prelude.{Ok, Err}
use Rattle.judge.specs.Judge.{judged_told}
use Rattle.word.specs.Held.{JudgeHeld}
use Rattle.word.proofs.Word.{asked}
use Rattle.codes.proofs.judged_word.Goals as goal

pub answer_word-requires : goal.answer_word-requires
answer_word-requires c = asked c.args.judged
    (λ v e. let h : JudgeHeld (judged_told (Ok v)) = rw e at c.requires in search rules)
    (λ r e. let h : JudgeHeld (judged_told (Err r)) = rw e at c.requires in search rules)
