-- Laws of the scan. None before a place i passes: one block more keeps that, or has the lowest place of all. Assumes nothing.
use mathlib.Core.Path.{◌≡◌, refl, sym, ap, ◌∙◌, subst}
use mathlib.Core.Bool.{Bool, true, false, cond, not}
use mathlib.Core.List.{List, [], ◌∷◌}
use Prim.Native.Nat.{ℕ, suc, ◌+◌, ◌-◌, ◌≤◌, ◌<◌}
use native.Mathlib.Decide.{dec_lt}
use native.Mathlib.Omega.{arith}
use borrow.Author.Tests.{ltb-true, ltb-false}
use lib.Dec.{T, leb, leb→le, ltb}
use lib.ListN.{length, get_or}
use Rattle.std.specs.Prelude.{Option, Some, None}
use Rattle.std.specs.List.{position, position_or_len}
use Rattle.model.specs.Below.{any, first}
use Rattle.model.specs.Rules.{lowest}
use Rattle.model.proofs.Slices.{part, part_length, part_at}
use Rattle.model.proofs.Below.{first_is, first_of, first_none, first_before, first_le, first_found, any_at, any_of}
use Rattle.lowest.specs.Place.{IsLowest}

abbrev pub at : (ℕ → Bool) → List ℕ → ℕ → Bool
at p s i = p (get_or s i 0)

abbrev pub NoneBefore : (ℕ → Bool) → List ℕ → ℕ → Type 0
NoneBefore p s i = (j : ℕ) → j < i → j < length s → ¬ T (at p s j)

pub none_in : (p : ℕ → Bool) (s : List ℕ) → NoneBefore p s (length s) → lowest p s ≡ length s
unfolding lowest
none_in p s none = first_none (length s) (at p s) (λ j h. none j h h)

lowest_le : (p : ℕ → Bool) (s : List ℕ) → lowest p s ≤ length s
unfolding lowest
lowest_le p s = first_le (length s) (at p s)

-- a byte is below 256, so none reaches a greater number
pub lowest_past : (b : ℕ) (s : List ℕ) → 255 < b → ((i : ℕ) → get_or s i 0 < 256) → lowest (leb b) s ≡ length s
lowest_past b s h f = none_in (leb b) s (λ i l m t. omega (arith, leb→le b (get_or s i 0) t, f i))

-- ---- the place that is found byte by byte

lowest_position : (p : ℕ → Bool) (s : List ℕ) → position_or_len p s ≡ lowest p s
unfolding lowest first
lowest_position p [] = refl
lowest_position p (x ∷ s) = go (p x) (lowest_position p s)
  where
    go : (b : Bool) → position_or_len p s ≡ lowest p s → cond (not b) (1 + position_or_len p s) 0
        ≡ cond b 0 (suc (first (length s) (at p s)))
    go true e = refl
    go false e = omega (arith, e)

pub position_lowest : (p : ℕ → Bool) (s : List ℕ) (r : Option ℕ) → r ≡ position p s → IsLowest p s r
position_lowest p s r e = rw (e, lowest_position) (go (ltb (lowest p s) (length s)) refl)
  where
    go : (b : Bool) → ltb (lowest p s) (length s) ≡ b → IsLowest p s (cond b (Some (lowest p s)) None)
    go true t = (refl, ltb-true _ _ t)
    go false t = omega (arith, ltb-false _ _ t, lowest_le p s)

-- where some byte passes, a lowest place is found
pub reached : (p : ℕ → Bool) (s : List ℕ) → any (length s) (at p s) ≡ true → ¬ IsLowest p s None
unfolding lowest
reached p s g e =
    let r = any_of (length s) (at p s) (rw g tt) in
    omega (arith, (first_of (length s) (at p s) r.0 r.1 r.2).below)

-- and where none does, none is
pub unreached : (p : ℕ → Bool) (s : List ℕ) → any (length s) (at p s) ≡ false → IsLowest p s None
unreached p s g = none_in p s (λ j m n t. subst T g (any_at (length s) (at p s) j n t))

-- ---- a block: the part from i up to e

module _ (p : ℕ → Bool) (s : List ℕ) (i e : ℕ) (h : i ≤ e) (l : e ≤ length s) (none : NoneBefore p s i) where
  -- no byte before i passes, and none of the block before its place r: so none before i + r
  before : (r : ℕ) → r ≤ e - i → ((j : ℕ) → j < r → ¬ T (at p (part s i e) j)) → (j : ℕ) → j < i + r → ¬ T (at p s j)
  before r b f j m t = go (dec_lt j i)
    where
      go : Dec (j < i) → ⊥
      go (yes c) = none j c (omega arith) t
      go (no c) =
          let back : i + (j - i) ≡ j = omega arith in
          f (j - i) (omega arith) (subst (λ x. T (p x)) (sym (part_at s i e h l (j - i) (omega arith) ∙ ap (λ x. get_or s x 0) back)) t)

  pub block_none : any (length (part s i e)) (at p (part s i e)) ≡ false → (j : ℕ) → j < e → ¬ T (at p s j)
  block_none g j m = before (length (part s i e)) (omega (arith, part_length s i e h l))
      (λ k n t. subst T g (any_at (length (part s i e)) (at p (part s i e)) k n t)) j (omega (arith, part_length s i e h l))

  pub block_clear : IsLowest p (part s i e) None → (j : ℕ) → j < e → ¬ T (at p s j)
  unfolding lowest
  block_clear q j m = before (length (part s i e)) (omega (arith, part_length s i e h l))
      (λ k n. first_before (length (part s i e)) (at p (part s i e)) k (omega arith)) j (omega (arith, part_length s i e h l))

  -- the lowest place of the block, counted from the start, is the whole's
  pub block_some : (x : ℕ) → IsLowest p (part s i e) (Some x) → IsLowest p s (Some (i + x))
  unfolding lowest
  block_some x (q, b) =
      let f = at p (part s i e) in
      let in_block : x < e - i = omega (arith, part_length s i e h l) in
      let first_below : first (length (part s i e)) f < length (part s i e) = omega arith in
      let passes = subst (λ y. T (f y)) (sym q) (first_found (length (part s i e)) f first_below) in
      let none_below = before x (omega arith) (λ j m. first_before (length (part s i e)) f j (omega arith)) in
      let whole = first_is (length s) (at p s) (i + x) (omega arith) (subst (λ y. T (p y)) (part_at s i e h l x in_block) passes) none_below in
      (sym whole, omega arith)
