-- A layout as a tree of bytes, for the functions below the calls; proofs/ show that its files are those of Files. Assumes nothing.
use Rattle.std.specs.Prelude.{Bool, cond, ◌&&◌, List, [], ◌∷◌, ℕ, zero, suc, ◌+◌, ◌-◌, ◌*◌, eqb, leb, ltb, get_or}
use Rattle.model.specs.Below.{tab}
use Rattle.layout.specs.Text.{MX, RW, PD, AS, TB, ZZ}

-- the file ends here; or there is a byte that passes a test, and then a layout that may go by that byte
pub data Layout : Type 0 where
  end : Layout
  byte : (ℕ → Bool) → (ℕ → Layout) → Layout

-- how many leading bytes fit the layout, and one more where the file ends with it
unfoldable pub reach : Layout → List ℕ → ℕ
reach end [] = 1
reach end (x ∷ s) = 0
reach (byte P F) [] = 0
reach (byte P F) (x ∷ s) = cond (P x) (suc (reach (F x) s)) 0

-- ---- the pieces, each before a layout F

-- the value of a digit, and 10 of any other byte
unfoldable pub digit_of : ℕ → ℕ
digit_of x = cond (leb 48 x && ltb x 58) (x - 48) 10

-- the value of a cell's character, and 3 of any other byte
unfoldable pub cell_of : ℕ → ℕ
cell_of x = cond (eqb x 48) 0 (cond (eqb x 49) 1 (cond (eqb x 42) 2 3))

-- these bytes
unfoldable pub text : List ℕ → Layout → Layout
text [] F = F
text (b ∷ t) F = byte (eqb b) (λ _. text t F)

-- c pieces
unfoldable pub times : ℕ → (ℕ → Layout → Layout) → Layout → Layout
times zero A F = F
times (suc c) A F = times c A (A c F)

-- a digit from lo on and below hi
unfoldable pub digit : ℕ → ℕ → (ℕ → Layout) → Layout
digit lo hi F = byte (λ x. leb lo (digit_of x) && ltb (digit_of x) hi) (λ x. F (digit_of x))

-- the ten is that of a number from lo on and below hi; and the unit, x being the ten
abbrev pub ten_test : ℕ → ℕ → ℕ → Bool
ten_test lo hi x = ltb (x * 10) hi && ltb lo (x * 10 + 10)

abbrev pub unit_test : ℕ → ℕ → ℕ → ℕ → Bool
unit_test lo hi x y = ltb y 10 && (leb lo (x * 10 + y) && ltb (x * 10 + y) hi)

-- a number of two digits, from lo on and below hi
unfoldable pub number : ℕ → ℕ → (ℕ → Layout) → Layout
number lo hi F = byte (λ x. ten_test lo hi (digit_of x)) (λ x. byte (λ y. unit_test lo hi (digit_of x) (digit_of y)) (λ y. F (digit_of x * 10 + digit_of y)))

-- w cells below lim
unfoldable pub cells : ℕ → ℕ → Layout → Layout
cells lim w = times w (λ _ F. byte (λ x. ltb (cell_of x) lim) (λ _. F))

-- n numbers below hi
unfoldable pub numbers : ℕ → ℕ → Layout → Layout
numbers hi n = times n (λ _ F. number 0 hi (λ _. F))

-- record u: a mark, u, w cells below lim
unfoldable pub record_of : List ℕ → ℕ → ℕ → ℕ → Layout → Layout
record_of mark lim w u F = text mark (number u (suc u) (λ _. cells lim w (text (10 ∷ []) F)))

-- c records
unfoldable pub records : List ℕ → ℕ → ℕ → ℕ → Layout → Layout
records mark lim w c = times c (record_of mark lim w)

-- a mark, the number of entities, that of rights
unfoldable pub sizes : List ℕ → (ℕ → ℕ → Layout) → Layout
sizes mark F = text mark (number 0 65 (λ n. digit 1 9 (λ k. F n k)))

-- the last line, with nothing behind it
unfoldable pub close : Layout
close = text ZZ (text (10 ∷ []) end)

-- ---- the two files

unfoldable pub matrix_layout : Layout
matrix_layout = sizes MX (λ n k. text (10 ∷ []) (records RW 3 (k * n) n close))

-- the first line of a policy's file: where there are entities there is a domain
unfoldable pub policy_sizes : (ℕ → ℕ → ℕ → Layout) → Layout
policy_sizes F = sizes PD (λ n k. number (cond (eqb n 0) 0 1) 65 (λ d. text (10 ∷ []) (F n k d)))

-- its second line
unfoldable pub assigned : ℕ → ℕ → Layout → Layout
assigned d n F = text AS (numbers d n (text (10 ∷ []) F))

unfoldable pub policy_layout : Layout
policy_layout = policy_sizes (λ n k d. assigned d n (records TB 2 (k * d) d close))

-- the numbers that stand at a place
abbrev pub digit_at : List ℕ → ℕ → ℕ
digit_at s i = digit_of (get_or s i 0)

abbrev pub number_at : List ℕ → ℕ → ℕ
number_at s i = digit_at s i * 10 + digit_at s (i + 1)

-- the cells of record u of those that stand from `at` on
abbrev pub row_at : List ℕ → ℕ → ℕ → ℕ → List ℕ
row_at s at w u = tab w (λ i. cell_of (get_or s (at + u * (w + 5) + 4 + i) 0))
