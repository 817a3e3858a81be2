-- What a loop over i in rising order needs: its invariant is an equation, `all i p ≡ true` (every one so far passes), `b ≡ any i p`
-- (whether one so far does), `first i p ≡ i` (none so far does), or a buffer whose first i bytes are filled. Assumes nothing.
use mathlib.Core.Path.{◌≡◌, refl, sym, ap, ◌∙◌, subst}
use mathlib.Core.Logic.{◌⊎◌, inl, inr}
use mathlib.Core.Bool.{Bool, true, false, ◌||◌}
use mathlib.Core.List.{List, [], ◌∷◌, ◌++◌}
use Prim.Native.Nat.{ℕ, zero, suc, ◌+◌, ◌-◌, ◌≤◌, ◌<◌}
use native.Mathlib.Numerals.{add-one}
use native.Mathlib.Omega.{arith}
use lib.Dec.{T}
use lib.ListN.{length, get_or, drop, set, length-append, length-drop, length-set, get_or-append}
use lib.Seq.{drop-cons, append_snoc, set_at}
use Rattle.model.specs.Below.{all, any, first, tab}
use Rattle.model.proofs.Tests.{false_of}
use Rattle.model.proofs.Below.{below_suc, all_at, first_is, first_none, first_before, length_tab, get_or_tab}

-- ---- every one passes

pub all_fails : (n i : ℕ) (p : ℕ → Bool) → i < n → p i ≡ false → all n p ≡ false
all_fails n i p h e = false_of (all n p) (λ t. subst T e (all_at n p t i h))

-- ---- whether one passes

pub any_none : (p : ℕ → Bool) → any 0 p ≡ false
unfolding any
any_none p = refl

pub any_next : (p : ℕ → Bool) (i : ℕ) (b : Bool) → b ≡ any i p → (b || p i) ≡ any (i + 1) p
unfolding any
any_next p i b e = rw (e, add-one) (or_comm (any i p) (p i))
  where
    or_comm : (a b : Bool) → (a || b) ≡ (b || a)
    or_comm true true = refl
    or_comm true false = refl
    or_comm false true = refl
    or_comm false false = refl

-- ---- the first that passes

none_first : (i : ℕ) (p : ℕ → Bool) → first i p ≡ i → (j : ℕ) → j < i → ¬ T (p j)
none_first i p e j h = first_before i p j (omega arith)

pub first_zero : (p : ℕ → Bool) → first 0 p ≡ 0
unfolding first
first_zero p = refl

pub first_next : (i : ℕ) (p : ℕ → Bool) → first i p ≡ i → p i ≡ false → first (i + 1) p ≡ i + 1
first_next i p e f = first_none (i + 1) p (λ j h t. go j (below_suc i j (rw add-one at h)) t)
  where
    go : (j : ℕ) → (j ≡ i) ⊎ (j < i) → ¬ T (p j)
    go j (inl q) t = subst T (ap p q ∙ f) t
    go j (inr l) t = none_first i p e j l t

pub first_here : (n i : ℕ) (p : ℕ → Bool) → i < n → first i p ≡ i → p i ≡ true → first n p ≡ i
first_here n i p h e t = first_is n p i h (rw t tt) (none_first i p e)

-- ---- a buffer whose first i bytes are f 0, f 1, .., and whose later bytes are what they were

abbrev pub filled : ℕ → (ℕ → ℕ) → List ℕ → List ℕ
filled i f l = tab i f ++ drop i l

pub filled_none : (f : ℕ → ℕ) (l : List ℕ) → l ≡ filled 0 f l
unfolding tab
filled_none f l = refl

pub filled_length : (i : ℕ) (f : ℕ → ℕ) (l : List ℕ) → i ≤ length l → length (filled i f l) ≡ length l
filled_length i f l h = rw (length-append, length_tab, length-drop) (omega arith)

pub filled_at : (i : ℕ) (f : ℕ → ℕ) (l : List ℕ) (j : ℕ) → j < i → get_or (filled i f l) j 0 ≡ f j
filled_at i f l j h = get_or-append (tab i f) (drop i l) 0 j (rw length_tab h) ∙ get_or_tab i f j h

pub tab_snoc : (i : ℕ) (f : ℕ → ℕ) → tab (suc i) f ≡ tab i f ++ (f i ∷ [])
unfolding tab
tab_snoc zero f = refl
tab_snoc (suc i) f = ap (λ t. f zero ∷ t) (tab_snoc i (λ j. f (suc j)))

pub filled_next : (i : ℕ) (f : ℕ → ℕ) (l : List ℕ) → i < length l → set (filled i f l) i (f i) ≡ filled (i + 1) f l
filled_next i f l h =
    ap (λ d. set (tab i f ++ d) i (f i)) (drop-cons l i 0 h)
    ∙ set_at (tab i f) (get_or l i 0) (drop (suc i) l) (f i) i (length_tab i f)
    ∙ sym (append_snoc (tab i f) (f i) (drop (suc i) l))
    ∙ rw add-one (ap (λ t. t ++ drop (suc i) l) (sym (tab_snoc i f)))

-- ---- the same in nested loops, where each loop knows only the buffer that it began with: t₀, filled up to i₀, has become t, filled up to i

pub record Grown (f : ℕ → ℕ) (t₀ : List ℕ) (i₀ : ℕ) (t : List ℕ) (i : ℕ) : Type 0 where
  pub long : length t ≡ length t₀
  pub fills : (l : List ℕ) → t₀ ≡ filled i₀ f l → t ≡ filled i f l

pub grown_next : (f : ℕ → ℕ) (t₀ : List ℕ) (i₀ : ℕ) (t : List ℕ) (i x : ℕ) → Grown f t₀ i₀ t i → i < length t → x ≡ f i
    → Grown f t₀ i₀ (set t i x) (i + 1)
grown_next f t₀ i₀ t i x g h e = record { long = length-set t i x ∙ g.long; fills = λ l q. next l (g.fills l q) }
  where
    next : (l : List ℕ) → t ≡ filled i f l → set t i x ≡ filled (i + 1) f l
    next l q =
        let long : length t ≡ i + (length l - i) = ap length q ∙ rw (length-append, length_tab, length-drop) in
        rw (e, q) (filled_next i f l (omega arith))

-- a buffer that has grown from its start
pub grown_whole : {f : ℕ → ℕ} {t₀ t : List ℕ} {i : ℕ} → Grown f t₀ 0 t i → t ≡ filled i f t₀
grown_whole {f} {t₀} g = g.fills t₀ (filled_none f t₀)
