-- When two entities are alike: the paper's "indistinguishable" (Definition 2.11; 01, "Alike"). Assumes nothing.
use Rattle.std.specs.Prelude.{◌≡◌, ◌≢◌, Bool, ◌&&◌, ℕ, ◌<◌, eqb}
use Rattle.model.specs.Below.{all}
use Rattle.model.specs.Matrix.{Cells}

-- for every right: (1) the pair's own four cells are equal; (2) towards every other x, and from it, the two are the same
pub record Alike (n k : ℕ) (M : Cells) (u v : ℕ) : Type 0 where
  pub own : (a : ℕ) → a < k → (M u a u ≡ M u a v) × (M u a v ≡ M v a u) × (M v a u ≡ M v a v)
  pub sends : (a x : ℕ) → a < k → x < n → x ≢ u → x ≢ v → M u a x ≡ M v a x
  pub receives : (a x : ℕ) → a < k → x < n → x ≢ u → x ≢ v → M x a u ≡ M x a v

-- equal rows (Definition 4.3), and as a test. Equal columns are equal rows with sender and receiver exchanged
unfoldable pub SameRows : ℕ → ℕ → Cells → ℕ → ℕ → Type 0
SameRows n k M u v = (a x : ℕ) → a < k → x < n → M u a x ≡ M v a x

unfoldable pub rows_test : ℕ → ℕ → Cells → ℕ → ℕ → Bool
rows_test n k M u v = all k (λ a. all n (λ x. eqb (M u a x) (M v a x)))

abbrev pub flip : Cells → Cells
flip M u a v = M v a u

-- the test of Alike: equal rows and equal columns (Observation 4.4 (2); the claim `AlikeTested` says that it is one)
unfoldable pub alike_test : ℕ → ℕ → Cells → ℕ → ℕ → Bool
alike_test n k M u v = rows_test n k M u v && rows_test n k (flip M) u v
