-- What a word can carry. No promise has it: it is what the functions that make words ask. Assumes nothing.
use Rattle.std.specs.Prelude.{List, [], ◌∷◌, ℕ, ◌^◌, ◌<◌}
use Rattle.model.specs.Refusal.{Told, values, refused}
use Rattle.word.specs.Word.{place_bits}

-- a refusal that a word can carry
pub record Carried (number place : ℕ) : Type 0 where
  pub given : 0 < number
  pub byte : number < 256
  pub bits : place < 2 ^ place_bits

-- a value for each field, and each has room in its own
pub data Fit : List ℕ → List ℕ → Type 0 where
  none : Fit [] []
  more : {w : ℕ} {ws : List ℕ} {x : ℕ} {vs : List ℕ} → x < 2 ^ w → Fit ws vs → Fit (w ∷ ws) (x ∷ vs)

-- what a word can carry
abbrev pub Held : List ℕ → Told → Type 0
Held ws (values vs) = Fit ws vs
Held ws (refused number place) = Carried number place

-- what a word of the judge can carry
pub data JudgeHeld : Told → Type 0 where
  enforcing : (d : ℕ) → d < 2 ^ 16 → JudgeHeld (values (0 ∷ d ∷ []))
  conflicting : (i x : ℕ) → i < 2 ^ 16 → x < 2 ^ 8 → JudgeHeld (values (1 ∷ i ∷ x ∷ []))
  refusing : (number place : ℕ) → Carried number place → JudgeHeld (refused number place)
