-- Laws of single steps that no function's proof cites: of `all` and of a buffer that grows, of the numbers of classes, of a row's
-- length, of each refusal of the sizes. Assumes nothing.
use mathlib.Core.Path.{◌≡◌, refl, ap, ◌∙◌}
use mathlib.Core.Bool.{Bool, true}
use mathlib.Core.List.{List}
use Prim.Native.Nat.{ℕ, ◌+◌, ◌*◌, ◌≤◌, ◌<◌}
use native.Mathlib.Nat.{add-sub_cancel_left}
use native.Mathlib.Numerals.{add-one}
use native.Mathlib.Omega.{arith}
use borrow.Author.Tests.{lt-ltb, le-ltb, eq-eqb, ne_eqb}
use lib.ListN.{length, take, drop}
use Rattle.std.specs.Prelude.{Err}
use Rattle.model.specs.declared.Fault.TheVariants.{Limit}
use Rattle.model.specs.Below.{all}
use Rattle.model.specs.Classes.{smallest, is_smallest, class_of}
use Rattle.model.specs.Refusal.{checked, refusal}
use Rattle.model.specs.Rules.{size_rules}
use Rattle.model.proofs.Count.{count_mono}
use Rattle.model.proofs.Classes.{Tests, smallest_under}
use Rattle.model.proofs.Loops.{Grown}
use Rattle.model.proofs.Numbering.{Numbered}
use Rattle.model.proofs.Rows.{Inside, passed, row_length}

-- ---- every one passes

pub all_none : (p : ℕ → Bool) → all 0 p ≡ true
unfolding all
all_none p = refl

pub all_next : (i : ℕ) (p : ℕ → Bool) → all i p ≡ true → p i ≡ true → all (i + 1) p ≡ true
unfolding all
all_next i p e f = rw (add-one, f) e

-- ---- a buffer that grows

pub grown_none : (f : ℕ → ℕ) (t : List ℕ) (i : ℕ) → Grown f t i t i
grown_none f t i = record { long = refl; fills = λ l e. e }

pub grown_on : {f : ℕ → ℕ} {t₀ t₁ t₂ : List ℕ} {i₀ i₁ i₂ : ℕ} → Grown f t₀ i₀ t₁ i₁ → Grown f t₁ i₁ t₂ i₂ → Grown f t₀ i₀ t₂ i₂
grown_on g h = record { long = h.long ∙ g.long; fills = λ l e. h.fills l (g.fills l e) }

-- ---- the numbers of classes

-- the number of u's class is not above that of the classes which have been met below u
pub class_under : (n : ℕ) (e : ℕ → ℕ → Bool) (of₀ low₀ of low : List ℕ) (d u : ℕ) → Numbered n e of₀ low₀ of low d u → Tests n e → u < n
    → class_of n e u ≤ d
unfolding class_of
class_under n e of₀ low₀ of low d u N E h = omega (arith, N.next, count_mono (is_smallest n e) (smallest n e u) u (smallest_under n e E u h))

-- ---- a row

pub passed_length : (n k : ℕ) (m : List ℕ) (u : ℕ) → Inside k n u (length m) → length (passed n k m u) ≡ k * n
passed_length n k m u I = ap (λ i. length (take i (drop (u * (k * n)) m))) (add-sub_cancel_left (u * (k * n)) (k * n)) ∙ row_length n k m u I

-- ---- each refusal of the sizes

module _ (n k d : ℕ) where
  pub sizes_n : 64 < n → Err (refusal Limit 0) ≡ checked (size_rules n k d)
  unfolding size_rules
  sizes_n h = rw (lt-ltb 64 n h)

  pub sizes_none : n ≤ 64 → k ≡ 0 → Err (refusal Limit 1) ≡ checked (size_rules n k d)
  unfolding size_rules
  sizes_none h e = rw (le-ltb 64 n h, eq-eqb k 0 e)

  pub sizes_k : n ≤ 64 → 8 < k → Err (refusal Limit 1) ≡ checked (size_rules n k d)
  unfolding size_rules
  sizes_k h l = rw (le-ltb 64 n h, ne_eqb k 0 (λ e. omega arith), lt-ltb 8 k l)

  pub sizes_d : n ≤ 64 → 0 < k → k ≤ 8 → 64 < d → Err (refusal Limit 2) ≡ checked (size_rules n k d)
  unfolding size_rules
  sizes_d h s l m = rw (le-ltb 64 n h, ne_eqb k 0 (λ e. omega arith), le-ltb 8 k l, lt-ltb 64 d m)
