-- `soroluzko::soroluzko_ask` meets its contract: what the call tells has room in its word (`Calls`). Assumes nothing.
use mathlib.Core.Path.{sym, subst}
use mathlib.Core.List.{[], ◌∷◌}
use Rattle.word.specs.Held.{Held}
use Rattle.words.proofs.Calls.{ask_held}
use Rattle.soroluzko.proofs.soroluzko_ask.Goals as goal

pub flag_word-requires : goal.flag_word-requires
flag_word-requires c = subst (Held (1 ∷ [])) (sym c.ask.ensures) (ask_held _ _ _ _ _ _)
