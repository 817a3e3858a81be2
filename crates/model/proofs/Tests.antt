-- Laws of tests: `T b` says that the test b passes. Assumes nothing.
use mathlib.Core.Path.{◌≡◌, refl, subst}
use mathlib.Core.Logic.{◌⊎◌, inl, inr}
use mathlib.Core.Bool.{Bool, true, false, ◌&&◌, ◌||◌}
use Prim.Native.Nat.{ℕ}
use lib.Dec.{T, eqb, eqb_refl}

pub and_left : (a b : Bool) → T (a && b) → T a
and_left true b t = tt
and_left false b t = t

pub and_right : (a b : Bool) → T (a && b) → T b
and_right true b t = t
and_right false b t = absurd t

pub and_both : (a b : Bool) → T a → T b → T (a && b)
and_both true b s t = t
and_both false b s t = s

pub or_cases : (a b : Bool) → T (a || b) → T a ⊎ T b
or_cases true b t = inl tt
or_cases false b t = inr t

pub or_left : (a b : Bool) → T a → T (a || b)
or_left true b t = tt
or_left false b t = absurd t

pub or_right : (a b : Bool) → T b → T (a || b)
or_right true b t = tt
or_right false b t = t

pub true_of : (b : Bool) → T b → b ≡ true
true_of true t = refl
true_of false t = absurd t

pub false_of : (b : Bool) → ¬ T b → b ≡ false
false_of true f = absurd (f tt)
false_of false f = refl

pub decide : (b : Bool) → T b ⊎ ¬ T b
decide true = inl tt
decide false = inr (λ t. t)

pub eqb_of : (m n : ℕ) → m ≡ n → T (eqb m n)
eqb_of m n e = subst (λ x. T (eqb m x)) e (eqb_refl m)

-- two tests that pass at the same time are one
pub same_test_lem : (a b : Bool) → (T a → T b) → (T b → T a) → a ≡ b
same_test_lem true true f g = refl
same_test_lem true false f g = absurd (f tt)
same_test_lem false true f g = absurd (g tt)
same_test_lem false false f g = refl
