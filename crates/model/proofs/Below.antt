-- Laws of `all`, `any`, `first` and `tab`. Assumes nothing.
use mathlib.Core.Path.{◌≡◌, refl, ap, ap₂, ◌∙◌, subst}
use mathlib.Core.Logic.{◌⊎◌, inl, inr}
use mathlib.Core.Bool.{Bool, true, false, cond, ◌||◌}
use mathlib.Core.List.{◌∷◌}
use Prim.Native.Nat.{ℕ, zero, suc, ◌≤◌, ◌<◌, zero-le, suc-le-suc}
use native.Mathlib.Nat.{le_refl, le_of_suc-le-suc, not-suc-le-zero}
use native.Mathlib.Decide.{ℕ_discrete}
use native.Mathlib.Omega.{arith}
use lib.Dec.{T}
use lib.ListN.{length, get_or}
use Rattle.model.specs.Below.{all, any, first, tab}
use Rattle.model.proofs.Tests.{and_left, and_right, and_both, or_cases, or_left, or_right, true_of, false_of, decide}

-- a number below suc n is n, or below n
pub below_suc : (n i : ℕ) → i < suc n → (i ≡ n) ⊎ (i < n)
below_suc n i h = go (ℕ_discrete i n)
  where
    go : Dec (i ≡ n) → (i ≡ n) ⊎ (i < n)
    go (yes e) = inl e
    go (no d) = inr (omega arith)

-- ---- all, any

pub all_at : (n : ℕ) (p : ℕ → Bool) → T (all n p) → (i : ℕ) → i < n → T (p i)
unfolding all
all_at zero p t i h = absurd (not-suc-le-zero h)
all_at (suc n) p t i h = go (below_suc n i h) (λ l. all_at n p (and_right (p n) (all n p) t) i l)
  where
    go : (i ≡ n) ⊎ (i < n) → (i < n → T (p i)) → T (p i)
    go (inl e) f = rw e (and_left (p n) (all n p) t)
    go (inr l) f = f l

pub all_of : (n : ℕ) (p : ℕ → Bool) → ((i : ℕ) → i < n → T (p i)) → T (all n p)
unfolding all
all_of zero p f = tt
all_of (suc n) p f = and_both (p n) (all n p) (f n (le_refl (suc n))) (all_of n p (λ i h. f i (omega arith)))

pub any_at : (n : ℕ) (p : ℕ → Bool) (i : ℕ) → i < n → T (p i) → T (any n p)
unfolding any
any_at zero p i h t = absurd (not-suc-le-zero h)
any_at (suc n) p i h t = go (below_suc n i h) (λ l. any_at n p i l t)
  where
    go : (i ≡ n) ⊎ (i < n) → (i < n → T (any n p)) → T (p n || any n p)
    go (inl e) f = or_left (p n) (any n p) (rw (← e) t)
    go (inr l) f = or_right (p n) (any n p) (f l)

pub any_of : (n : ℕ) (p : ℕ → Bool) → T (any n p) → (i : ℕ) × (i < n) × T (p i)
unfolding any
any_of zero p t = absurd t
any_of (suc n) p t = go (or_cases (p n) (any n p) t) (λ s. any_of n p s)
  where
    go : T (p n) ⊎ T (any n p) → (T (any n p) → (i : ℕ) × (i < n) × T (p i)) → (i : ℕ) × (i < suc n) × T (p i)
    go (inl s) f = (n, le_refl (suc n), s)
    go (inr s) f = let r = f s in (r.0, omega (arith, r.1), r.2)

-- ---- first

pub first_le : (n : ℕ) (p : ℕ → Bool) → first n p ≤ n
unfolding first
first_le zero p = zero-le
first_le (suc n) p = go (p zero) (first_le n (λ i. p (suc i)))
  where
    go : (b : Bool) → first n (λ i. p (suc i)) ≤ n → cond b zero (suc (first n (λ i. p (suc i)))) ≤ suc n
    go true h = zero-le
    go false h = suc-le-suc h

-- whichever number passes, with none below it, is the first
pub first_is : (n : ℕ) (p : ℕ → Bool) (r : ℕ) → r < n → T (p r) → ((i : ℕ) → i < r → ¬ T (p i)) → first n p ≡ r
unfolding first
first_is zero p r h t f = absurd (not-suc-le-zero h)
first_is (suc n) p zero h t f = ap (λ b. cond b zero (suc (first n (λ i. p (suc i))))) (true_of (p zero) t)
first_is (suc n) p (suc r) h t f =
    ap (λ b. cond b zero (suc (first n (λ i. p (suc i))))) (false_of (p zero) (f zero (omega arith)))
    ∙ ap suc (first_is n (λ i. p (suc i)) r (le_of_suc-le-suc h) t (λ i l. f (suc i) (suc-le-suc l)))

pub first_none : (n : ℕ) (p : ℕ → Bool) → ((i : ℕ) → i < n → ¬ T (p i)) → first n p ≡ n
unfolding first
first_none zero p f = refl
first_none (suc n) p f =
    ap (λ b. cond b zero (suc (first n (λ i. p (suc i))))) (false_of (p zero) (f zero (omega arith)))
    ∙ ap suc (first_none n (λ i. p (suc i)) (λ i h. f (suc i) (suc-le-suc h)))

-- where r passes, the first does, and it is no greater
pub record First (n : ℕ) (p : ℕ → Bool) (r : ℕ) : Type 0 where
  pub below : first n p < n
  pub passes : T (p (first n p))
  pub least : first n p ≤ r

pub first_of : (n : ℕ) (p : ℕ → Bool) (r : ℕ) → r < n → T (p r) → First n p r
unfolding first
first_of zero p r h t = absurd (not-suc-le-zero h)
first_of (suc n) p r h t = go (p zero) refl r h t (λ s l q. first_of n (λ i. p (suc i)) s l q)
  where
    go : (b : Bool) → p zero ≡ b → (r : ℕ) → r < suc n → T (p r)
        → ((s : ℕ) → s < n → T (p (suc s)) → First n (λ i. p (suc i)) s) → First (suc n) p r
    go true e r h t f = record { below = rw (e, first) (omega arith); passes = rw (e, first) (rw e tt); least = rw (e, first) zero-le }
    go false e zero h t f = absurd (subst T e t)
    go false e (suc r) h t f = let g = f r (le_of_suc-le-suc h) t in
        record { below = rw (e, first) (suc-le-suc g.below); passes = rw (e, first) g.passes; least = rw (e, first) (suc-le-suc g.least) }

pub first_before : (n : ℕ) (p : ℕ → Bool) (i : ℕ) → i < first n p → ¬ T (p i)
first_before n p i h t = omega (arith, first_le n p, (first_of n p i (omega (arith, first_le n p)) t).least)

-- a first below n passes
pub first_found : (n : ℕ) (p : ℕ → Bool) → first n p < n → T (p (first n p))
first_found n p h = go (decide (any n p))
  where
    go : T (any n p) ⊎ ¬ T (any n p) → T (p (first n p))
    go (inl t) = let r = any_of n p t in (first_of n p r.0 r.1 r.2).passes
    go (inr f) = absurd (omega (arith, first_none n p (λ i l t. f (any_at n p i l t))))

pub first_same : (n : ℕ) (p q : ℕ → Bool) → ((i : ℕ) → i < n → p i ≡ q i) → first n p ≡ first n q
unfolding first
first_same zero p q f = refl
first_same (suc n) p q f = rw (f zero (omega arith), first_same n (λ i. p (suc i)) (λ i. q (suc i)) (λ i h. f (suc i) (suc-le-suc h)))

-- ---- tab

pub length_tab : (n : ℕ) (f : ℕ → ℕ) → length (tab n f) ≡ n
unfolding tab
length_tab zero f = refl
length_tab (suc n) f = ap suc (length_tab n (λ i. f (suc i)))

pub get_or_tab : (n : ℕ) (f : ℕ → ℕ) (i : ℕ) → i < n → get_or (tab n f) i 0 ≡ f i
unfolding tab
get_or_tab zero f i h = absurd (not-suc-le-zero h)
get_or_tab (suc n) f zero h = refl
get_or_tab (suc n) f (suc i) h = get_or_tab n (λ i. f (suc i)) i (le_of_suc-le-suc h)

pub tab_same : (n : ℕ) (f g : ℕ → ℕ) → ((i : ℕ) → i < n → f i ≡ g i) → tab n f ≡ tab n g
unfolding tab
tab_same zero f g e = refl
tab_same (suc n) f g e = ap₂ (λ x l. x ∷ l) (e zero (omega arith)) (tab_same n (λ i. f (suc i)) (λ i. g (suc i)) (λ i h. e (suc i) (suc-le-suc h)))
