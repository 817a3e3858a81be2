-- A filling, cell by cell; and a policy enforces a matrix with gaps exactly if it enforces some filling of it: the one that has what the
-- policy grants. Assumes nothing.
use mathlib.Core.Path.{◌≡◌, sym, ◌∙◌}
use mathlib.Core.Logic.{◌↔◌, ◌⊎◌, inl, inr}
use mathlib.Core.Bool.{Bool, true, false, cond}
use Prim.Native.Nat.{ℕ, ◌<◌}
use native.Mathlib.Omega.{arith}
use native.Mathlib.Decide.{ℕ_discrete}
use borrow.Author.Tests.{eq-eqb, ne_eqb}
use lib.Dec.{eqb}
use Rattle.model.specs.Matrix.{Cells, Full, Fills}
use Rattle.model.specs.Policy.{Policy, answer, Enforces}

nought_or_one : (x : ℕ) → x < 2 → (x ≡ 0) ⊎ (x ≡ 1)
nought_or_one x h = go (ℕ_discrete x 0)
  where
    go : Dec (x ≡ 0) → (x ≡ 0) ⊎ (x ≡ 1)
    go (yes e) = inl e
    go (no f) = inr (omega arith)

low : (x : ℕ) → (x ≡ 0) ⊎ (x ≡ 1) → x < 2
low x (inl e) = omega arith
low x (inr e) = omega arith

module _ (n k : ℕ) (M F : Cells) where
  logged : Fills n k M F → (u a v : ℕ) → u < n → a < k → v < n → (M u a v ≡ 0) ⊎ (M u a v ≡ 1) → F u a v ≡ M u a v
  logged f u a v h b l (inl e) = f.denies u a v h b l e ∙ sym e
  logged f u a v h b l (inr e) = f.grants u a v h b l e ∙ sym e

  pub filling_cells : Fills n k M F ↔ ((u a v : ℕ) → u < n → a < k → v < n
      → ((F u a v ≡ 0) ⊎ (F u a v ≡ 1)) × (((M u a v ≡ 0) ⊎ (M u a v ≡ 1)) → F u a v ≡ M u a v))
  unfolding Full
  filling_cells = (
    λ f u a v h b l. (nought_or_one (F u a v) (f.full u a v h b l), logged f u a v h b l),
    λ c. record {
      full = λ u a v h b l. low (F u a v) (c u a v h b l).0;
      grants = λ u a v h b l e. (c u a v h b l).1 (inr e) ∙ e;
      denies = λ u a v h b l e. (c u a v h b l).1 (inl e) ∙ e;
    },
  )

-- 1 where the answer is a grant, and 0 elsewhere
grants_of : Cells → Cells
grants_of G u a v = cond (eqb (G u a v) 1) 1 0

module _ (G : Cells) (u a v : ℕ) where
  granted_one : G u a v ≡ 1 → grants_of G u a v ≡ 1
  unfolding grants_of
  granted_one e = rw (eq-eqb (G u a v) 1 e)

  granted_nought : ¬ (G u a v ≡ 1) → grants_of G u a v ≡ 0
  unfolding grants_of
  granted_nought f = rw (ne_eqb (G u a v) 1 f)

  granted_low : grants_of G u a v < 2
  unfolding grants_of
  granted_low = go (eqb (G u a v) 1)
    where
      go : (b : Bool) → cond b 1 0 < 2
      go true = omega arith
      go false = omega arith

  one_granted : grants_of G u a v ≡ 1 → G u a v ≡ 1
  one_granted e = go (ℕ_discrete (G u a v) 1)
    where
      go : Dec (G u a v ≡ 1) → G u a v ≡ 1
      go (yes p) = p
      go (no f) = absurd (omega (arith, granted_nought f))

pub enforces_filling : (n k : ℕ) (M : Cells) (P : Policy) → Enforces n k M P ↔ ((F : Cells) × Fills n k M F × Enforces n k F P)
unfolding Full
enforces_filling n k M P = (
  λ E. (
    grants_of (answer k P),
    record {
      full = λ u a v h b l. granted_low (answer k P) u a v;
      grants = λ u a v h b l e. granted_one (answer k P) u a v (E.grants u a v h b l e);
      denies = λ u a v h b l e. granted_nought (answer k P) u a v (E.denies u a v h b l e);
    },
    record {
      grants = λ u a v h b l e. one_granted (answer k P) u a v e;
      denies = λ u a v h b l e g. omega (arith, granted_one (answer k P) u a v g);
    },
  ),
  λ w. record {
    grants = λ u a v h b l e. w.2.grants u a v h b l (w.1.grants u a v h b l e);
    denies = λ u a v h b l e. w.2.denies u a v h b l (w.1.denies u a v h b l e);
  },
)
