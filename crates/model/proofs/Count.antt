-- Laws of `count`, up to the pigeonhole principle: an injection from the members of p to those of q shows that q has as many at least.
-- Assumes nothing.
use mathlib.Core.Path.{◌≡◌, refl, sym, ap, ◌∙◌, subst}
use mathlib.Core.Logic.{◌⊎◌, inl, inr, ◌≢◌}
use mathlib.Core.Bool.{Bool, cond, not, ◌&&◌}
use Prim.Native.Nat.{ℕ, zero, suc, ◌≤◌, ◌<◌, zero-le}
use native.Mathlib.Nat.{le_refl, not-suc-le-zero}
use native.Mathlib.Decide.{ℕ_discrete, dec_lt}
use native.Mathlib.Omega.{arith}
use lib.Dec.{T, eqb, eqb→eq, T_not, not_T}
use Rattle.model.specs.Below.{count}
use Rattle.model.proofs.Tests.{and_left, and_right, and_both, true_of, false_of, decide, eqb_of, same_test_lem}
use Rattle.model.proofs.Below.{below_suc}

pub count_true : (n : ℕ) (p : ℕ → Bool) → T (p n) → count (suc n) p ≡ suc (count n p)
unfolding count
count_true n p t = ap (λ b. cond b (suc (count n p)) (count n p)) (true_of (p n) t)

pub count_false : (n : ℕ) (p : ℕ → Bool) → ¬ T (p n) → count (suc n) p ≡ count n p
unfolding count
count_false n p f = ap (λ b. cond b (suc (count n p)) (count n p)) (false_of (p n) f)

count_step : (n : ℕ) (p : ℕ → Bool) → count n p ≤ count (suc n) p
count_step n p = go (decide (p n))
  where
    go : T (p n) ⊎ ¬ T (p n) → count n p ≤ count (suc n) p
    go (inl t) = omega (arith, count_true n p t)
    go (inr f) = omega (arith, count_false n p f)

pub count_le : (n : ℕ) (p : ℕ → Bool) → count n p ≤ n
unfolding count
count_le zero p = zero-le
count_le (suc n) p = go (decide (p n)) (count_le n p)
  where
    go : T (p n) ⊎ ¬ T (p n) → count n p ≤ n → count (suc n) p ≤ suc n
    go (inl t) h = omega (arith, count_true n p t)
    go (inr f) h = omega (arith, count_false n p f)

pub count_mono : (p : ℕ → Bool) (i j : ℕ) → i ≤ j → count i p ≤ count j p
count_mono p i zero h = omega (arith, ap (λ x. count x p) (le_zero i h))
  where
    le_zero : (i : ℕ) → i ≤ zero → i ≡ zero
    le_zero i h = omega arith
count_mono p i (suc j) h = go (ℕ_discrete i (suc j)) (λ l. count_mono p i j l)
  where
    go : Dec (i ≡ suc j) → (i ≤ j → count i p ≤ count j p) → count i p ≤ count (suc j) p
    go (yes e) f = omega (arith, ap (λ x. count x p) e)
    go (no d) f = omega (arith, f (omega arith), count_step j p)

-- past a number that passes the count has grown
pub count_past : (p : ℕ → Bool) (i j : ℕ) → T (p i) → i < j → count i p < count j p
count_past p i j t h = omega (arith, count_true i p t, count_mono p (suc i) j h)

-- so two that pass, with one count below them, are one
pub count_apart : (p : ℕ → Bool) (i j : ℕ) → T (p i) → T (p j) → count i p ≡ count j p → i ≡ j
count_apart p i j s t e = go (dec_lt i j) (dec_lt j i)
  where
    go : Dec (i < j) → Dec (j < i) → i ≡ j
    go (yes h) _ = absurd (omega (arith, count_past p i j s h))
    go (no f) (yes h) = absurd (omega (arith, count_past p j i t h))
    go (no f) (no g) = omega arith

pub count_same : (n : ℕ) (p q : ℕ → Bool) → ((i : ℕ) → i < n → p i ≡ q i) → count n p ≡ count n q
unfolding count
count_same zero p q f = refl
count_same (suc n) p q f = rw (f n (le_refl (suc n)), count_same n p q (λ i h. f i (omega arith)))

pub count_all : (n : ℕ) (p : ℕ → Bool) → ((i : ℕ) → i < n → T (p i)) → count n p ≡ n
unfolding count
count_all zero p f = refl
count_all (suc n) p f = count_true n p (f n (le_refl (suc n))) ∙ ap suc (count_all n p (λ i h. f i (omega arith)))

-- each number below a count is the count below some number that passes
abbrev pub Hit : ℕ → (ℕ → Bool) → ℕ → Type 0
Hit n p c = (i : ℕ) × (i < n) × T (p i) × (count i p ≡ c)

pub count_hits : (n : ℕ) (p : ℕ → Bool) (c : ℕ) → c < count n p → Hit n p c
unfolding count
count_hits zero p c h = absurd (not-suc-le-zero h)
count_hits (suc n) p c h = go (decide (p n)) (ℕ_discrete (count n p) c) (λ l. count_hits n p c l)
  where
    go : T (p n) ⊎ ¬ T (p n) → Dec (count n p ≡ c) → (c < count n p → Hit n p c) → Hit (suc n) p c
    go (inl t) (yes e) f = (n, le_refl (suc n), t, e)
    go (inl t) (no d) f = let r = f (omega (arith, count_true n p t)) in (r.0, omega (arith, r.1), r.2, r.3)
    go (inr t) _ f = let r = f (omega (arith, count_false n p t)) in (r.0, omega (arith, r.1), r.2, r.3)

-- ---- the pigeonhole principle

-- one number taken out
abbrev less : (ℕ → Bool) → ℕ → ℕ → Bool
less p x i = p i && not (eqb i x)

less_other : (p : ℕ → Bool) (x i : ℕ) → i ≢ x → p i ≡ less p x i
less_other p x i d = same_test_lem (p i) (less p x i)
    (λ t. and_both (p i) (not (eqb i x)) t (not_T (eqb i x) (λ s. d (eqb→eq i x s))))
    (λ t. and_left (p i) (not (eqb i x)) t)

less_same : (p : ℕ → Bool) (x i : ℕ) → i ≡ x → ¬ T (less p x i)
less_same p x i e s = T_not (eqb i x) (and_right (p i) (not (eqb i x)) s) (eqb_of i x e)

count_less : (n : ℕ) (p : ℕ → Bool) (x : ℕ) → x < n → T (p x) → count n p ≡ suc (count n (less p x))
count_less zero p x h t = absurd (not-suc-le-zero h)
count_less (suc n) p x h t = go (below_suc n x h) (λ l. count_less n p x l t) (decide (p n))
  where
    go : (x ≡ n) ⊎ (x < n) → (x < n → count n p ≡ suc (count n (less p x))) → T (p n) ⊎ ¬ T (p n)
        → count (suc n) p ≡ suc (count (suc n) (less p x))
    go (inl e) f _ =
        count_true n p (rw (← e) t)
        ∙ ap suc (count_same n p (less p x) (λ i l. less_other p x i (omega arith)) ∙ sym (count_false n (less p x) (less_same p x n (sym e))))
    go (inr l) f (inl s) =
        count_true n p s ∙ ap suc (f l ∙ sym (count_true n (less p x) (subst T (less_other p x n (omega arith)) s)))
    go (inr l) f (inr s) =
        count_false n p s ∙ f l ∙ ap suc (sym (count_false n (less p x) (λ r. s (and_left (p n) (not (eqb n x)) r))))

-- f takes the members of p below n to different members of q below d
pub record Injects (n : ℕ) (p : ℕ → Bool) (d : ℕ) (q : ℕ → Bool) (f : ℕ → ℕ) : Type 0 where
  pub into : (i : ℕ) → i < n → T (p i) → (f i < d) × T (q (f i))
  pub apart : (i j : ℕ) → i < n → j < n → T (p i) → T (p j) → f i ≡ f j → i ≡ j

pub count_injects : (n : ℕ) (p : ℕ → Bool) (d : ℕ) (q : ℕ → Bool) (f : ℕ → ℕ) → Injects n p d q f → count n p ≤ count d q
unfolding count
count_injects zero p d q f h = zero-le
count_injects (suc n) p d q f h = go (decide (p n)) (λ q' g. count_injects n p d q' f g)
  where
    apart : (i j : ℕ) → i < n → j < n → T (p i) → T (p j) → f i ≡ f j → i ≡ j
    apart i j l m s t e = h.apart i j (omega arith) (omega arith) s t e

    -- the last member takes its image away, and no other member had it
    others : T (p n) → Injects n p d (less q (f n)) f
    others s = record {
      into = λ i l t.
          let r = h.into i (omega arith) t in
          (r.0, subst T (less_other q (f n) (f i) (λ e. clash i l (h.apart i n (omega arith) (omega arith) t s e))) r.1);
      apart = apart;
    }
      where
        clash : (i : ℕ) → i < n → i ≡ n → ⊥
        clash i l e = omega arith

    go : T (p n) ⊎ ¬ T (p n) → ((q' : ℕ → Bool) → Injects n p d q' f → count n p ≤ count d q') → count (suc n) p ≤ count d q
    go (inr s) ih =
        let g : Injects n p d q f = record { into = λ i l t. h.into i (omega arith) t; apart = apart } in
        omega (arith, count_false n p s, ih q g)
    go (inl s) ih =
        let at = h.into n (le_refl (suc n)) s in
        omega (arith, count_true n p s, ih (less q (f n)) (others s), count_less d q (f n) at.0 at.1)
