-- The matrix: where a cell stands, when a matrix is full, what fills its gaps (01, "Matrix and policy"; Definition 3.1). Assumes nothing.
use Rattle.std.specs.Prelude.{◌≡◌, List, ℕ, ◌+◌, ◌*◌, ◌≤◌, ◌<◌, length, get_or, take, drop}

-- a value for each sender, right and receiver (Definition 4.1): 0 deny, 1 grant, 2 unlogged
abbrev pub Cells : Type 0
Cells = ℕ → ℕ → ℕ → ℕ

-- where cell (u, a, v) stands, among k rights and y receivers
abbrev pub cell_at : ℕ → ℕ → ℕ → ℕ → ℕ → ℕ
cell_at k y u a v = (u * k + a) * y + v

-- the cells of a list that is laid out so
unfoldable pub cell : ℕ → ℕ → List ℕ → Cells
cell k y m u a v = get_or m (cell_at k y u a v) 0

-- m has the cells of n entities and k rights, within the limits
pub record Laid (n k : ℕ) (m : List ℕ) : Type 0 where
  pub entities : n ≤ 64
  pub right : 0 < k
  pub rights : k ≤ 8
  pub size : length m ≡ n * k * n

-- m holds a matrix within the limits, with cells below b: 3 for any matrix, 2 for a full one
pub record Holds (n k b : ℕ) (m : List ℕ) : Type 0 where
  pub laid : Laid n k m
  pub below : (i : ℕ) → i < length m → get_or m i 0 < b

-- a sender's row: its k·n cells, where they stand in the matrix
abbrev pub row_of : ℕ → ℕ → List ℕ → ℕ → List ℕ
row_of n k m u = take (k * n) (drop (u * (k * n)) m)

-- no cell is unlogged
unfoldable pub Full : ℕ → ℕ → Cells → Type 0
Full n k M = (u a v : ℕ) → u < n → a < k → v < n → M u a v < 2

-- F is a filling of M (Definition 3.1's instantiation): full, with M's logged cells
pub record Fills (n k : ℕ) (M F : Cells) : Type 0 where
  pub full : Full n k F
  pub grants : (u a v : ℕ) → u < n → a < k → v < n → M u a v ≡ 1 → F u a v ≡ 1
  pub denies : (u a v : ℕ) → u < n → a < k → v < n → M u a v ≡ 0 → F u a v ≡ 0
