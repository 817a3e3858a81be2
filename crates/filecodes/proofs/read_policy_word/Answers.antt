-- `filecodes::read_policy_word` meets its contract: what the answer has has room in its fields, so no sum wraps. Assumes nothing.
use mathlib.Core.List.{[], ◌∷◌}
use borrow.Author.Rules.{rules}
use Rattle.std.specs.Prelude.{Ok, Err}
use Rattle.files.specs.Read.{read_policy_told}
use Rattle.word.specs.Held.{Held}
use Rattle.word.proofs.Word.{fit_first, fit_rest, asked}
use Rattle.filecodes.proofs.read_policy_word.Goals as goal

pub answer_word-requires : goal.answer_word-requires
answer_word-requires c = asked c.args.read
    (λ z e.
    let h : Held (8 ∷ 8 ∷ 8 ∷ []) (read_policy_told (Ok z)) = rw e at c.requires in
    let a = fit_first h in
    let b = fit_first (fit_rest h) in
    let d = fit_first (fit_rest (fit_rest h)) in
    search rules)
    (λ r e. let h : Held (8 ∷ 8 ∷ 8 ∷ []) (read_policy_told (Err r)) = rw e at c.requires in (h.byte, h.bits))
