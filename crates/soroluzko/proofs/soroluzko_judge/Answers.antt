-- `soroluzko::soroluzko_judge` meets its contract: what the call tells has room in its word (`Calls`). Assumes nothing.
use mathlib.Core.Path.{sym, subst}
use Rattle.word.specs.Held.{JudgeHeld}
use Rattle.words.proofs.Calls.{judge_held}
use Rattle.soroluzko.proofs.soroluzko_judge.Goals as goal

pub judged_word-requires : goal.judged_word-requires
judged_word-requires c = subst (JudgeHeld) (sym c.judge.ensures) (judge_held _ _ _ _)
