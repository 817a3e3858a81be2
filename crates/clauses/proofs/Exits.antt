-- What single comparisons decide about the tests of the clauses. Assumes nothing.
use mathlib.Core.Path.{◌≡◌}
use mathlib.Core.Bool.{Bool, true}
use Prim.Native.Nat.{ℕ}
use borrow.Author.Tests.{eq-eqb, ne_eqb}
use Rattle.clauses.specs.Clauses.{four_test, but_test}

-- four values, compared one after the other
pub four_passes : (w x y z : ℕ) → w ≡ x → x ≡ y → y ≡ z → four_test w x y z ≡ true
unfolding four_test
four_passes w x y z e g h = rw (eq-eqb w x e, eq-eqb x y g, eq-eqb y z h)

-- x is u, x is v, or x is another
module _ (u v x : ℕ) (b : Bool) where
  pub but_first : x ≡ u → but_test u v x b ≡ true
  unfolding but_test
  but_first e = rw (eq-eqb x u e)

  pub but_second : ¬ (x ≡ u) → x ≡ v → but_test u v x b ≡ true
  unfolding but_test
  but_second f e = rw (ne_eqb x u f, eq-eqb x v e)

  pub but_other : ¬ (x ≡ u) → ¬ (x ≡ v) → but_test u v x b ≡ b
  unfolding but_test
  but_other f g = rw (ne_eqb x u f, ne_eqb x v g)
