-- What a write answers, and what it leaves in the buffer (01, "The calls" and "Numbers of refusal"). Assumes nothing.
use Rattle.std.specs.Prelude.{◌≡◌, List, [], ◌∷◌, ℕ, length, Result}
use Rattle.model.specs.declared.Refusal.{Refusal}
use Rattle.model.specs.Refusal.{Rule, checked, Told, tell, told, single, held}

-- what a write answers: the length of what was written, or a refusal
abbrev pub Wrote : Type 0
Wrote = Result ℕ Refusal

-- the answer's number and values, case by case
abbrev pub wrote_told : Wrote → Told
wrote_told r = told single r

-- where none of the rules applies the text is written to the buffer x: what is told, and what x becomes
pub record Written (rules : List Rule) (text x : List ℕ) (t : Told) (x' : List ℕ) : Type 0 where
  pub told : t ≡ tell (checked rules) (length text ∷ [])
  pub left : x' ≡ held (checked rules) text x
