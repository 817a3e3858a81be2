-- Tests, counts and searches over the numbers below n. Assumes nothing.
use Rattle.std.specs.Prelude.{Bool, true, false, cond, ◌&&◌, ◌||◌, List, [], ◌∷◌, ℕ, zero, suc}

-- the test passes at every number below n
unfoldable pub all : ℕ → (ℕ → Bool) → Bool
all zero p = true
all (suc n) p = p n && all n p

-- the test passes at some number below n
unfoldable pub any : ℕ → (ℕ → Bool) → Bool
any zero p = false
any (suc n) p = p n || any n p

-- how many numbers below n pass the test
unfoldable pub count : ℕ → (ℕ → Bool) → ℕ
count zero p = zero
count (suc n) p = cond (p n) (suc (count n p)) (count n p)

-- the smallest number below n that passes the test, or n where none does
unfoldable pub first : ℕ → (ℕ → Bool) → ℕ
first zero p = zero
first (suc n) p = cond (p zero) zero (suc (first n (λ i. p (suc i))))

-- the list f 0, f 1, .. of n numbers
unfoldable pub tab : ℕ → (ℕ → ℕ) → List ℕ
tab zero f = []
tab (suc n) f = f zero ∷ tab n (λ i. f (suc i))
