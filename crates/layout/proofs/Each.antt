-- Texts one behind the other: their length, where each of them stands, and that the parts of a list make up the list. Assumes nothing.
use mathlib.Core.Path.{◌≡◌, refl, sym, ap, ap₂, ◌∙◌}
use mathlib.Core.List.{List, [], ◌∷◌, ◌++◌, append_assoc, append-nil}
use mathlib.Core.Logic.{◌⊎◌, inl, inr}
use Prim.Native.Nat.{ℕ, zero, suc, ◌+◌, ◌*◌, ◌<◌}
use native.Mathlib.Nat.{suc-mul, zero-mul, add-zero, add-suc}
use native.Mathlib.Omega.{arith}
use lib.ListN.{length, get_or, length-append, get_or-append}
use lib.Seq.{get_or-append-add, ext_get_or}
use Rattle.model.specs.Below.{tab}
use Rattle.model.proofs.Below.{below_suc, length_tab, get_or_tab}
use Rattle.model.proofs.Loops.{tab_snoc}
use Rattle.layout.specs.Text.{each, record_text}

pub each_same : (n : ℕ) (f g : ℕ → List ℕ) → ((i : ℕ) → i < n → f i ≡ g i) → each n f ≡ each n g
unfolding each
each_same zero f g h = refl
each_same (suc n) f g h = ap₂ (λ (s t : List ℕ). s ++ t) (each_same n f g (λ i l. h i (omega arith))) (h n (omega arith))

-- texts of one byte
pub each_one : (n : ℕ) (f : ℕ → ℕ) → each n (λ i. f i ∷ []) ≡ tab n f
unfolding each tab
each_one zero f = refl
each_one (suc n) f = ap (λ (t : List ℕ). t ++ (f n ∷ [])) (each_one n f) ∙ sym (tab_snoc n f)

-- ---- texts of one length

pub length_each : (n w : ℕ) (f : ℕ → List ℕ) → ((i : ℕ) → i < n → length (f i) ≡ w) → length (each n f) ≡ n * w
unfolding each
length_each zero w f h = sym (zero-mul w)
length_each (suc n) w f h =
    length-append (each n f) (f n) ∙ omega (arith, length_each n w f (λ i l. h i (omega arith)), h n (omega arith), suc-mul n w)

-- byte j of text u
pub get_or_each : (n w : ℕ) (f : ℕ → List ℕ) (t : List ℕ) → ((i : ℕ) → i < n → length (f i) ≡ w) → (u j : ℕ) → u < n → j < w
    → get_or (each n f ++ t) (u * w + j) 0 ≡ get_or (f u) j 0
unfolding each
get_or_each zero w f t h u j l m = absurd (omega arith)
get_or_each (suc n) w f t h u j l m = go (below_suc n u l) (λ b. get_or_each n w f (f n ++ t) (λ i q. h i (omega arith)) u j b m)
  where
    long : length (each n f) ≡ n * w
    long = length_each n w f (λ i b. h i (omega arith))

    go : (u ≡ n) ⊎ (u < n) → (u < n → get_or (each n f ++ (f n ++ t)) (u * w + j) 0 ≡ get_or (f u) j 0)
        → get_or ((each n f ++ f n) ++ t) (u * w + j) 0 ≡ get_or (f u) j 0
    go (inl e) ih =
        ap (λ (s : List ℕ). get_or s (u * w + j) 0) (append_assoc (each n f) (f n) t)
        ∙ ap (λ (i : ℕ). get_or (each n f ++ (f n ++ t)) i 0) (ap (λ (x : ℕ). x * w + j) e ∙ ap (λ (x : ℕ). x + j) (sym long))
        ∙ get_or-append-add (each n f) (f n ++ t) j 0
        ∙ get_or-append (f n) t 0 j (rw (h n (omega arith)) m)
        ∙ ap (λ (x : ℕ). get_or (f x) j 0) (sym e)
    go (inr b) ih = ap (λ (s : List ℕ). get_or s (u * w + j) 0) (append_assoc (each n f) (f n) t) ∙ ih b

-- ---- parts of w numbers each

tab_append : (a b : ℕ) (f : ℕ → ℕ) → tab a f ++ tab b (λ i. f (a + i)) ≡ tab (a + b) f
unfolding tab
tab_append a zero f = append-nil (tab a f) ∙ ap (λ (z : ℕ). tab z f) (sym (add-zero a))
tab_append a (suc b) f =
    ap (λ (t : List ℕ). tab a f ++ t) (tab_snoc b (λ i. f (a + i)))
    ∙ sym (append_assoc (tab a f) (tab b (λ i. f (a + i))) (f (a + b) ∷ []))
    ∙ ap (λ (t : List ℕ). t ++ (f (a + b) ∷ [])) (tab_append a b f)
    ∙ sym (tab_snoc (a + b) f)
    ∙ ap (λ (z : ℕ). tab z f) (sym (add-suc a b))

pub each_tab : (n w : ℕ) (f : ℕ → ℕ) → each n (λ u. tab w (λ i. f (u * w + i))) ≡ tab (n * w) f
unfolding each tab
each_tab zero w f = ap (λ (z : ℕ). tab z f) (sym (zero-mul w))
each_tab (suc n) w f =
    ap (λ (t : List ℕ). t ++ tab w (λ i. f (n * w + i))) (each_tab n w f)
    ∙ tab_append (n * w) w f
    ∙ ap (λ (z : ℕ). tab z f) (sym (suc-mul n w))

-- a list is made up of its numbers
pub tab_list : (l : List ℕ) (n : ℕ) → length l ≡ n → tab n (λ i. get_or l i 0) ≡ l
tab_list l n e = ext_get_or 0 (tab n (λ i. get_or l i 0)) l (length_tab n (λ i. get_or l i 0) ∙ sym e) (λ i h.
    get_or_tab n (λ i. get_or l i 0) i (rw length_tab at h))

pub record_length : (mark l : List ℕ) (w u : ℕ) → length mark ≡ 2 → length (record_text mark w l u) ≡ w + 5
record_length mark l w u e = rw (length-append, length-append, length_tab) (omega arith)

-- its four texts: the mark, the number, the cells, the line feed
