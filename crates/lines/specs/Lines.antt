-- Lists of bytes, and two columns of a matrix, compared from end to end, for the functions below `same`. Assumes nothing.
use Rattle.std.specs.Prelude.{Bool, List, ℕ, ◌+◌, ◌*◌, eqb, get_or}
use Rattle.model.specs.Below.{all}

-- f and g are the same at the first e numbers
unfoldable pub agree_test : ℕ → (ℕ → ℕ) → (ℕ → ℕ) → Bool
agree_test e f g = all e (λ i. eqb (f i) (g i))

-- the first e bytes of r and s are the same
abbrev pub same_test : ℕ → List ℕ → List ℕ → Bool
same_test e r s = agree_test e (λ i. get_or r i 0) (λ i. get_or s i 0)

-- in each of so many lines of n cells, the cells u and v are the same
abbrev pub columns_test : ℕ → ℕ → List ℕ → ℕ → ℕ → Bool
columns_test lines n m u v = agree_test lines (λ i. get_or m (i * n + u) 0) (λ i. get_or m (i * n + v) 0)
