-- `soroluzko::soroluzko_build` meets its contract: what the call tells has room in its word (`Calls`), and the buffers are as it leaves them.
-- Assumes nothing.
use mathlib.Core.Path.{sym, ap, ◌∙◌, subst}
use mathlib.Core.List.{[], ◌∷◌}
use Rattle.word.specs.Word.{word}
use Rattle.word.specs.Held.{Held}
use Rattle.word.proofs.Word.{held_wider}
use Rattle.words.proofs.Calls.{build_held}
use Rattle.soroluzko.proofs.soroluzko_build.Goals as goal

pub size_word-requires : goal.size_word-requires
size_word-requires c = held_wider _ (subst (Held (8 ∷ [])) (sym c.build.ensures.told) (build_held _ _ _ _ _))

pub returns-clause-value : goal.returns-clause-value
returns-clause-value c = c.size_word.ensures 8 ∙ ap (word (8 ∷ [])) c.build.ensures.told
