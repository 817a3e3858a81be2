-- Equivalences on the numbers below n; and the classes of a test e, numbered from 0 by their smallest members (01, "Alike").
-- Assumes nothing.
use Rattle.std.specs.Prelude.{Bool, ℕ, ◌<◌, eqb}
use Rattle.model.specs.Below.{count, first}

pub record Equivalence (n : ℕ) (R : ℕ → ℕ → Type 0) : Type 0 where
  pub reflexive : (u : ℕ) → u < n → R u u
  pub symmetric : (u v : ℕ) → u < n → v < n → R u v → R v u
  pub transitive : (u v w : ℕ) → u < n → v < n → w < n → R u v → R v w → R u w

-- the smallest member of u's class
unfoldable pub smallest : ℕ → (ℕ → ℕ → Bool) → ℕ → ℕ
smallest n e u = first n (e u)

-- u is the smallest member of its class
unfoldable pub is_smallest : ℕ → (ℕ → ℕ → Bool) → ℕ → Bool
is_smallest n e u = eqb (smallest n e u) u

-- how many classes there are
unfoldable pub classes : ℕ → (ℕ → ℕ → Bool) → ℕ
classes n e = count n (is_smallest n e)

-- the number of u's class: how many smallest members stand below its own
unfoldable pub class_of : ℕ → (ℕ → ℕ → Bool) → ℕ → ℕ
class_of n e u = count (smallest n e u) (is_smallest n e)

-- the smallest member of the class that has the number p
unfoldable pub member_of : ℕ → (ℕ → ℕ → Bool) → ℕ → ℕ
member_of n e p = first n (λ u. eqb (class_of n e u) p)
