-- Texts written one behind the other are one text. So a loop that writes byte by byte (`tab`), or piece by piece (`each`), has written one
-- text at each turn. Assumes nothing.
use mathlib.Core.Path.{◌≡◌, refl, ap, ◌∙◌}
use mathlib.Core.List.{List, [], ◌∷◌, ◌++◌, append_assoc}
use Prim.Native.Nat.{ℕ, suc, ◌+◌, ◌*◌, ◌≤◌, ◌<◌}
use native.Mathlib.Nat.{add-zero, suc-mul, mul-le-mul_right}
use native.Mathlib.Numerals.{add-one}
use native.Mathlib.Omega.{arith}
use lib.ListN.{length, get_or, drop, set, length-append}
use lib.Seq.{sets, sets-eq}
use Rattle.model.specs.Below.{tab}
use Rattle.model.specs.Refusal.{over}
use Rattle.model.proofs.Below.{length_tab}
use Rattle.model.proofs.Loops.{tab_snoc}
use Rattle.layout.specs.Text.{each, two, cell_char, record_text}
use Rattle.layout.proofs.Each.{length_each}

-- a text behind a text is one text
pub put_put : (A B l : List ℕ) (i j : ℕ) → j ≡ i + length A → sets (sets l i A) j B ≡ sets l i (A ++ B)
put_put [] B l i j e = ap (λ z. sets l z B) (e ∙ add-zero i)
put_put (a ∷ A) B l i j e = put_put A B (set l i a) (suc i) j (omega arith)

-- the same of a buffer that became out, and then out'
pub put_next : {out out' : List ℕ} (A B l : List ℕ) (i j : ℕ) → out ≡ sets l i A → j ≡ i + length A → out' ≡ sets out j B → out' ≡ sets l i (A ++ B)
put_next A B l i j e q e' = e' ∙ rw e (put_put A B l i j q)

-- ---- byte by byte

pub tab_start : (f : ℕ → ℕ) (l : List ℕ) (at : ℕ) → l ≡ sets l at (tab 0 f)
unfolding tab
tab_start f l at = refl

pub tab_turn : {out : List ℕ} {x : ℕ} (f : ℕ → ℕ) (l : List ℕ) (at i to : ℕ) → out ≡ sets l at (tab i f) → to ≡ at + i → x ≡ f i
    → set out to x ≡ sets l at (tab (i + 1) f)
tab_turn f l at i to e q v = rw (v, add-one, tab_snoc) (put_next (tab i f) (f i ∷ []) l at to e (rw length_tab q) refl)

-- ---- piece by piece

pub each_start : (f : ℕ → List ℕ) (l : List ℕ) (at : ℕ) → l ≡ sets l at (each 0 f)
unfolding each
each_start f l at = refl

-- a piece of c ends before they all do
pub piece_ends : (u c L : ℕ) → u < c → u * L + L ≤ c * L
piece_ends u c L h = omega (arith, mul-le-mul_right L h, suc-mul u L)

each_snoc : (u : ℕ) (f : ℕ → List ℕ) → each (u + 1) f ≡ each u f ++ f u
unfolding each
each_snoc u f = rw add-one

pub each_turn : {out out' : List ℕ} (f : ℕ → List ℕ) (l : List ℕ) (at u L to : ℕ) → ((i : ℕ) → i < u → length (f i) ≡ L)
    → out ≡ sets l at (each u f) → to ≡ at + u * L → out' ≡ sets out to (f u) → out' ≡ sets l at (each (u + 1) f)
each_turn f l at u L to h e q e' = rw each_snoc (put_next (each u f) (f u) l at to e (omega (arith, length_each u L f h)) e')

-- ---- a record

pub record_put : {o₁ o₂ o₃ o₄ : List ℕ} (mark l out : List ℕ) (w u at : ℕ) → length mark ≡ 2
    → o₁ ≡ sets out at mark → o₂ ≡ sets o₁ (at + 2) (two u) → o₃ ≡ sets o₂ (at + 4) (tab w (λ i. cell_char (get_or l (u * w + i) 0)))
    → o₄ ≡ sets o₃ (at + 4 + w) (10 ∷ []) → o₄ ≡ sets out at (record_text mark w l u)
record_put mark l out w u at h e₁ e₂ e₃ e₄ =
    let cells = tab w (λ i. cell_char (get_or l (u * w + i) 0)) in
    let numbered = put_next mark (two u) out at (at + 2) e₁ (omega arith) e₂ in
    let long = length-append mark (two u) in
    let filled = put_next (mark ++ two u) cells out at (at + 4) numbered (omega arith) e₃ in
    let all : length (mark ++ two u ++ cells) ≡ 4 + w = rw (length-append, length_tab) (omega arith) in
    rw (← append_assoc) (put_next (mark ++ two u ++ cells) (10 ∷ []) out at (at + 4 + w) filled (omega arith) e₄)

-- ---- a whole text

pub put_whole : (A l : List ℕ) → length A ≤ length l → sets l 0 A ≡ over A l
put_whole A l h = let e : 0 + length A ≡ length A = omega arith in sets-eq A l 0 (omega arith) ∙ ap (λ (z : ℕ). A ++ drop z l) e
