-- What can share a label: answers that go by labels, f for the sender and g for the receiver, give senders of one label one row.
-- The receivers' law is the senders' over the exchanged matrix. Assumes nothing.
use mathlib.Core.Path.{◌≡◌, sym, ◌∙◌}
use Prim.Native.Nat.{ℕ, ◌<◌}
use native.Mathlib.Decide.{ℕ_discrete}
use native.Mathlib.Omega.{arith}
use Rattle.model.specs.Matrix.{Cells, Full}
use Rattle.model.specs.Alike.{SameRows, flip}
use Rattle.model.specs.Policy.{Agrees}

-- two bits that stand for one fact are one
same_bit : {x y : ℕ} {G : Type 0} → x < 2 → y < 2 → (x ≡ 1 → G) → (x ≡ 0 → ¬ G) → (y ≡ 1 → G) → (y ≡ 0 → ¬ G) → x ≡ y
same_bit {x} {y} {G} i j x1 x0 y1 y0 = go (ℕ_discrete x 0) (ℕ_discrete y 0)
  where
    go : Dec (x ≡ 0) → Dec (y ≡ 0) → x ≡ y
    go (yes p) (yes q) = p ∙ sym q
    go (yes p) (no q) = absurd (x0 p (y1 (omega arith)))
    go (no p) (yes q) = absurd (y0 q (x1 (omega arith)))
    go (no p) (no q) = omega arith

abbrev pub by_labels : Cells → (ℕ → ℕ) → (ℕ → ℕ) → Cells
by_labels C f g u a v = C (f u) a (g v)

pub flip_agrees : (n k : ℕ) (M G : Cells) → Agrees n k M G → Agrees n k (flip M) (flip G)
flip_agrees n k M G A = record { grants = λ u a v h b l. A.grants v a u l b h; denies = λ u a v h b l. A.denies v a u l b h }

pub flip_full : (n k : ℕ) (M : Cells) → Full n k M → Full n k (flip M)
unfolding Full
flip_full n k M f = λ u a v h b l. f v a u l b h

pub shared_rows : (n k : ℕ) (M C : Cells) (f g : ℕ → ℕ) → Full n k M → Agrees n k M (by_labels C f g)
    → (u v : ℕ) → u < n → v < n → f u ≡ f v → SameRows n k M u v
unfolding Full SameRows
shared_rows n k M C f g full A u v h l s a x b m =
    same_bit (full u a x h b m) (full v a x l b m) (A.grants u a x h b m) (A.denies u a x h b m)
    (λ q. rw s (A.grants v a x l b m q)) (λ q. rw s (A.denies v a x l b m q))

pub shared_columns : (n k : ℕ) (M C : Cells) (f g : ℕ → ℕ) → Full n k M → Agrees n k M (by_labels C f g)
    → (u v : ℕ) → u < n → v < n → g u ≡ g v → SameRows n k (flip M) u v
shared_columns n k M C f g full A =
    shared_rows n k (flip M) (flip C) g f (flip_full n k M full) (flip_agrees n k M (by_labels C f g) A)
