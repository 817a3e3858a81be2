-- The line of a refusal has ten bytes, and is what stands in a buffer where its pieces were put down one behind the other. No function's
-- proof cites it. Assumes nothing.
use mathlib.Core.Path.{◌≡◌, refl, ◌∙◌}
use mathlib.Core.List.{List, [], ◌∷◌, ◌++◌}
use Prim.Native.Nat.{ℕ, ◌/◌, ◌%◌, ◌≤◌}
use lib.ListN.{length}
use lib.Seq.{sets}
use Rattle.model.specs.declared.Refusal.{Refusal}
use Rattle.model.specs.Refusal.{number_of, over}
use Rattle.layout.specs.Text.{one, two}
use Rattle.layout.proofs.Puts.{put_next, put_whole}
use Rattle.woven.specs.Weave.{NO, five, refusal_text}

pub line_length : (r : Refusal) → length (refusal_text r) ≡ 10
unfolding refusal_text
line_length r = refl

pub line_put : {o₁ o₂ o₃ o₄ o₅ o₆ : List ℕ} (r : Refusal) (out : List ℕ) → 10 ≤ length out
    → o₁ ≡ sets out 0 NO → o₂ ≡ sets o₁ 2 (two (number_of r.fault)) → o₃ ≡ sets o₂ 4 (one (r.place / 10000))
    → o₄ ≡ sets o₃ 5 (two (r.place / 100 % 100)) → o₅ ≡ sets o₄ 7 (two (r.place % 100)) → o₆ ≡ sets o₅ 9 (10 ∷ [])
    → o₆ ≡ over (refusal_text r) out
unfolding refusal_text
line_put r out h e₁ e₂ e₃ e₄ e₅ e₆ =
    let number = two (number_of r.fault) in
    let first = one (r.place / 10000) in
    let middle = two (r.place / 100 % 100) in
    let numbered = put_next NO number out 0 2 e₁ refl e₂ in
    let begun = put_next (NO ++ number) first out 0 4 numbered refl e₃ in
    let further = put_next (NO ++ (number ++ first)) middle out 0 5 begun refl e₄ in
    let placed = put_next (NO ++ (number ++ (first ++ middle))) (two (r.place % 100)) out 0 7 further refl e₅ in
    let whole = put_next (NO ++ (number ++ five r.place)) (10 ∷ []) out 0 9 placed refl e₆ in
    whole ∙ put_whole (refusal_text r) out h
