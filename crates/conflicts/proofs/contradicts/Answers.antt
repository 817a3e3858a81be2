-- `conflicts::contradicts` meets its contract: where the answer is 0 the sum without carry is what is logged, and is 1 for a grant; where it is
-- 1 the sum is 1 only for a logged 0. Assumes nothing.
use mathlib.Core.Path.{◌≡◌, sym, ap, ◌∙◌}
use Prim.Native.Nat.{ℕ, ◌<◌}
use native.Mathlib.Decide.{ℕ_discrete}
use native.Mathlib.Omega.{arith}
use borrow.Author.Tests.{ne_eqb}
use lib.Bits.{bit_xor, xor_zero_r, xor_add_and, and_le_r}
use lib.Dec.{eqb}
use Rattle.model.specs.Clash.{clash_test}
use Rattle.conflicts.proofs.contradicts.Goals as goal

-- a number that a 1 makes 1 is 0
only-nought : (x : ℕ) → ¬ (x ≡ 0) → ¬ (bit_xor x 1 ≡ 1)
only-nought x f e = go (ℕ_discrete x 2)
  where
    go : Dec (x ≡ 2) → ⊥
    go (yes q) = let z : ◌≡◌ {A = ℕ} 3 1 = ap (λ (y : ℕ). bit_xor y 1) (sym q) ∙ e in omega arith
    go (no q) = omega (arith, xor_add_and x 1, and_le_r x 1)

differ : (x g : ℕ) → g < 2 → eqb (bit_xor x g) 1 ≡ clash_test x g
unfolding clash_test
differ x g h = go (ℕ_discrete g 0) (ℕ_discrete x 0) (ℕ_discrete x 1)
  where
    go : Dec (g ≡ 0) → Dec (x ≡ 0) → Dec (x ≡ 1) → eqb (bit_xor x g) 1 ≡ clash_test x g
    go (yes e) (yes a) _ = rw (e, a)
    go (yes e) (no a) (yes b) = rw (e, b)
    go (yes e) (no a) (no b) = rw (e, xor_zero_r x, ne_eqb x 0 a, ne_eqb x 1 b)
    go (no e) (yes a) _ = let z : g ≡ 1 = omega arith in rw (z, a)
    go (no e) (no a) (yes b) = let z : g ≡ 1 = omega arith in rw (z, b)
    go (no e) (no a) (no b) = let z : g ≡ 1 = omega arith in rw (z, ne_eqb (bit_xor x 1) 1 (only-nought x a), ne_eqb x 0 a, ne_eqb x 1 b)

pub returns : goal.returns
returns c = differ _ _ (omega arith)
