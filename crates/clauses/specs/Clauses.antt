-- The clauses of Definition 2.11 as tests on rows, for the functions below the call: r and s are the rows of u and v, and t that of
-- a third. Assumes nothing.
use Rattle.std.specs.Prelude.{Bool, ◌&&◌, ◌||◌, List, ℕ, ◌+◌, ◌*◌, eqb, get_or}
use Rattle.model.specs.Below.{all}
use Rattle.model.specs.Matrix.{row_of}

-- the cell of a row for right a and receiver x
abbrev pub in_row : ℕ → List ℕ → ℕ → ℕ → ℕ
in_row n r a x = get_or r (a * n + x) 0

-- clause 1 for right a, and for every right: (u,a,u), (u,a,v), (v,a,u), (v,a,v) are equal
unfoldable pub four_test : ℕ → ℕ → ℕ → ℕ → Bool
four_test w x y z = eqb w x && (eqb x y && eqb y z)

abbrev pub own_test : ℕ → List ℕ → List ℕ → ℕ → ℕ → ℕ → Bool
own_test n r s u v a = four_test (in_row n r a u) (in_row n r a v) (in_row n s a u) (in_row n s a v)

abbrev pub own_all_test : ℕ → ℕ → List ℕ → List ℕ → ℕ → ℕ → Bool
own_all_test n k r s u v = all k (own_test n r s u v)

-- clause 2 passes over the two themselves
unfoldable pub but_test : ℕ → ℕ → ℕ → Bool → Bool
but_test u v x b = eqb x u || (eqb x v || b)

-- clause 2, sending, for right a and a third x, and for every right and third: (u,a,x) = (v,a,x)
abbrev pub sends_test : ℕ → List ℕ → List ℕ → ℕ → ℕ → ℕ → ℕ → Bool
sends_test n r s u v a x = but_test u v x (eqb (in_row n r a x) (in_row n s a x))

abbrev pub sends_all_test : ℕ → ℕ → List ℕ → List ℕ → ℕ → ℕ → Bool
sends_all_test n k r s u v = all k (λ a. all n (sends_test n r s u v a))

-- and receiving, for right a, for every right, and for every third x, whose row is t: (x,a,u) = (x,a,v)
abbrev pub same_test : ℕ → List ℕ → ℕ → ℕ → ℕ → Bool
same_test n t u v a = eqb (in_row n t a u) (in_row n t a v)

abbrev pub treats_test : ℕ → ℕ → List ℕ → ℕ → ℕ → ℕ → Bool
treats_test n k t u v x = but_test u v x (all k (same_test n t u v))

abbrev pub treats_all_test : ℕ → ℕ → List ℕ → ℕ → ℕ → Bool
treats_all_test n k m u v = all n (λ x. treats_test n k (row_of n k m x) u v x)
