-- The word that C gets for an answer: the refusal's number in the low byte (0: none), above it the place, or the values. Assumes nothing.
use Rattle.std.specs.Prelude.{◌≡◌, cond, List, [], ◌∷◌, ℕ, ◌+◌, ◌*◌, ◌/◌, ◌%◌, ◌^◌, ◌<◌, eqb}
use Rattle.model.specs.Refusal.{Told, values, refused}

-- values side by side in fields of so many bits, the first one lowest; and taken out again
unfoldable pub fields : List ℕ → List ℕ → ℕ
fields [] vs = 0
fields (w ∷ ws) [] = 0
fields (w ∷ ws) (x ∷ vs) = x + 2 ^ w * fields ws vs

unfoldable pub unfields : List ℕ → ℕ → List ℕ
unfields [] y = []
unfields (w ∷ ws) y = y % 2 ^ w ∷ unfields ws (y / 2 ^ w)

-- the bits of a refusal's place
abbrev pub place_bits : ℕ
place_bits = 24

-- the word of what is told, and what a word tells
unfoldable pub word : List ℕ → Told → ℕ
word ws (values vs) = 256 * fields ws vs
word ws (refused number place) = number + 256 * place

unfoldable pub unword : List ℕ → ℕ → Told
unword ws y = cond (eqb (y % 256) 0) (values (unfields ws (y / 256))) (refused (y % 256) (y / 256 % 2 ^ place_bits))

-- nothing is lost: the word tells what was told, and has no more bits
abbrev pub Kept : List ℕ → ℕ → Told → Type 0
Kept ws bits t = (unword ws (word ws t) ≡ t) × (word ws t < 2 ^ bits)
