-- Each way out of the tests of the clauses: the first cells that differ, the first test that fails, and where a row's cells stand. No
-- function's proof cites them. Assumes nothing.
use mathlib.Core.Path.{◌≡◌, refl, sym, ap, ◌∙◌}
use mathlib.Core.Bool.{Bool, true, false}
use mathlib.Core.List.{List}
use Prim.Native.Nat.{ℕ, ◌+◌, ◌*◌, ◌≤◌, ◌<◌}
use native.Mathlib.Nat.{mul-le-mul}
use borrow.Author.Tests.{eq-eqb, ne_eqb}
use lib.Arith.{digits_lt}
use Rattle.model.specs.Below.{all}
use Rattle.model.specs.Matrix.{cell, row_of}
use Rattle.model.specs.Alike.{alike_test}
use Rattle.model.proofs.Rows.{passed, rows_told}
use Rattle.clauses.specs.Clauses.{four_test, own_all_test, sends_all_test, treats_all_test}
use Rattle.clauses.proofs.Clauses.{own_fails, sends_fails, treats_decides}

-- ---- four values, compared one after the other

module _ (w x y z : ℕ) where
  pub four_first : ¬ (w ≡ x) → four_test w x y z ≡ false
  unfolding four_test
  four_first f = rw (ne_eqb w x f)

  pub four_second : w ≡ x → ¬ (x ≡ y) → four_test w x y z ≡ false
  unfolding four_test
  four_second e f = rw (eq-eqb w x e, ne_eqb x y f)

  pub four_third : w ≡ x → x ≡ y → ¬ (y ≡ z) → four_test w x y z ≡ false
  unfolding four_test
  four_third e g f = rw (eq-eqb w x e, eq-eqb x y g, ne_eqb y z f)

-- ---- a loop that came to its end

pub all_done : (n i : ℕ) (p : ℕ → Bool) → i ≡ n → all i p ≡ true → true ≡ all n p
all_done n i p e h = sym (ap (λ j. all j p) (sym e) ∙ h)

-- ---- the cell for right a and receiver x stands inside the row, which is short

pub in_row : (n k a x : ℕ) → n ≤ 64 → k ≤ 8 → a < k → x < n → (a * n + x < k * n) × (k * n ≤ 512)
in_row n k a x h b l hx = (digits_lt l hx, mul-le-mul b h)

pub two_in_row : (n k a u v : ℕ) → n ≤ 64 → k ≤ 8 → a < k → u < n → v < n → (a * n + u < k * n) × (a * n + v < k * n) × (k * n ≤ 512)
two_in_row n k a u v h b l hu hv = (digits_lt l hu, digits_lt l hv, mul-le-mul b h)

-- ---- the three tests, on rows

module _ (n k : ℕ) (m : List ℕ) (u v : ℕ) (hu : u < n) (hv : v < n) where
  abbrev o : Bool
  o = own_all_test n k (row_of n k m u) (row_of n k m v) u v

  abbrev s : Bool
  s = sends_all_test n k (row_of n k m u) (row_of n k m v) u v

  -- the same of the parts of the matrix that are passed
  p : Bool
  p = own_all_test n k (passed n k m u) (passed n k m v) u v

  q : Bool
  q = sends_all_test n k (passed n k m u) (passed n k m v) u v

  own_same : o ≡ p
  unfolding p
  own_same = rows_told n k m u v (λ r t. own_all_test n k r t u v) p refl

  sends_same : s ≡ q
  unfolding q
  sends_same = rows_told n k m u v (λ r t. sends_all_test n k r t u v) q refl

  pub own_differ : o ≡ false → false ≡ alike_test n k (cell k n m) u v
  unfolding p
  own_differ e = own_fails n k m u v hu hv p refl (sym own_same ∙ e)

  pub sends_differ : o ≡ true → s ≡ false → false ≡ alike_test n k (cell k n m) u v
  unfolding p q
  sends_differ e f = sends_fails n k m u v hu hv p refl q refl (sym own_same ∙ e) (sym sends_same ∙ f)

  pub treats_decide : o ≡ true → s ≡ true → treats_all_test n k m u v ≡ alike_test n k (cell k n m) u v
  unfolding p q
  treats_decide e f = treats_decides n k m u v hu hv p refl q refl (sym own_same ∙ e) (sym sends_same ∙ f)
