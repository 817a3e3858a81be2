-- The scan byte by byte, where `any` tells of the bytes before a place, and the greatest place it can answer. No function's proof cites it.
-- Assumes nothing.
use mathlib.Core.Path.{◌≡◌, sym, ◌∙◌, subst}
use mathlib.Core.Bool.{Bool, true, false}
use mathlib.Core.List.{List}
use Prim.Native.Nat.{ℕ, ◌≤◌, ◌<◌}
use native.Mathlib.Omega.{arith}
use lib.Dec.{T}
use lib.ListN.{length, get_or}
use Rattle.model.specs.Below.{any}
use Rattle.model.specs.Rules.{lowest}
use Rattle.model.proofs.Below.{first_is, first_none, first_le, any_at}
use Rattle.lowest.proofs.Lowest.{at}

-- none of the first i passes
pub passed_not : (p : ℕ → Bool) (i : ℕ) → any i p ≡ false → (j : ℕ) → j < i → ¬ T (p j)
passed_not p i e j h t = subst T e (any_at i p j h t)

pub lowest_here : (p : ℕ → Bool) (s : List ℕ) (i : ℕ) → i < length s → any i (at p s) ≡ false → p (get_or s i 0) ≡ true → i ≡ lowest p s
unfolding lowest
lowest_here p s i h e t = sym (first_is (length s) (at p s) i h (rw t tt) (passed_not (at p s) i e))

pub lowest_end : (p : ℕ → Bool) (s : List ℕ) (i : ℕ) → i ≡ length s → any i (at p s) ≡ false → i ≡ lowest p s
unfolding lowest
lowest_end p s i q e = q ∙ sym (first_none (length s) (at p s) (λ j h. passed_not (at p s) i e j (omega arith)))

pub lowest_le : (p : ℕ → Bool) (s : List ℕ) → lowest p s ≤ length s
unfolding lowest
lowest_le p s = first_le (length s) (at p s)
