-- `soroluzko::soroluzko_alike` meets its contract: what the call tells has room in its word (`Calls`). Assumes nothing.
use mathlib.Core.Path.{sym, subst}
use mathlib.Core.List.{[], ◌∷◌}
use Rattle.word.specs.Held.{Held}
use Rattle.words.proofs.Calls.{alike_held}
use Rattle.soroluzko.proofs.soroluzko_alike.Goals as goal

pub flag_word-requires : goal.flag_word-requires
flag_word-requires c = subst (Held (1 ∷ [])) (sym c.alike.ensures) (alike_held _ _ _ _ _)
