-- `all` over the numbers below n is the test of all of them. Assumes nothing.
use mathlib.Core.Path.{◌≡◌, refl, sym, ap, ◌∙◌}
use mathlib.Core.Bool.{Bool, true, false}
use mathlib.Core.List.{List}
use Prim.Native.Nat.{ℕ, ◌<◌}
use native.Mathlib.Omega.{arith}
use denote.Param.Members.{Mut}
use lib.ListN.{length, get_or}
use Rattle.std.specs.Bool.{MatchBool}
use Rattle.std.specs.Fn.{Called}
use Rattle.std.specs.Iterator.{YieldsThen}
use Rattle.std.specs.List.{FoldsTo, range_with_len, AllWithin, HoldsAt}
use Rattle.std.specs.Option.{MatchOption}
use Rattle.std.specs.declared.option.Option.{Option}
use Rattle.std.specs.declared.ops.Range.{Range}
use Rattle.std.proofs.iter.Yields.{nat_range_steps}
use Rattle.std.proofs.lemmas.Iterator.{cases_from_all, YieldsList-from_range}
use Rattle.std.proofs.lemmas.List.FromFn.{length-range_with_len, get_or-range_with_len}
use Rattle.model.specs.Below.{all}
use Rattle.model.proofs.Tests.{true_of}
use Rattle.model.proofs.Below.{all_of}
use Rattle.model.proofs.Loops.{all_fails}

module _ (n : ℕ) (p : ℕ → Bool) where
  abbrev xs : List ℕ
  xs = range_with_len 0 n

  at : (i : ℕ) → i < n → p (get_or xs i 0) ≡ p i
  at i h = ap p (omega (arith, get_or-range_with_len 0 n i 0 h))

  told : (b : Bool) → MatchBool b (AllWithin (λ x. p x ≡ true) xs 0 (length xs)) ((k : ℕ) × (k < length xs) × HoldsAt (λ x. p x ≡ false) xs k)
      → b ≡ all n p
  told true t = sym (true_of (all n p) (all_of n p (λ i h. rw (sym (at i h) ∙ t i 0 (omega arith) (omega (arith, length-range_with_len 0 n))) tt)))
  told false t = let h : t.0 < n = omega (arith, t.1, length-range_with_len 0 n) in sym (all_fails n t.0 p h (sym (at t.0 h) ∙ t.2 0))

  -- where f stays as it is and answers p at each call: what `all` ensures of its calls is the first premise
  pub all_told : {F : Type 0} {g : Mut F (ℕ × Unit {0}) Bool} (u : Range ℕ) (f : F) (r : Bool)
      → (ys : List ℕ) × (o : Option ℕ) × (j : F) × YieldsThen nat_range_steps (record { start = 0; end = n }) ys o u
      × FoldsTo (λ a x b. Called g a (x, tt) true b) f ys j × MatchOption o (r ≡ true) (λ x. (r ≡ false) × ((h : F) × Called g j (x, tt) false h))
      → ((x : ℕ) (b : Bool) (q : F) → Called g f (x, tt) b q → q ≡ f) → ((x : ℕ) (b : Bool) (q : F) → Called g f (x, tt) b q → b ≡ p x) → r ≡ all n p
  all_told u f r ran keeps is = told r (cases_from_all u f r (λ x. p x ≡ true) (λ x. p x ≡ false) ran (YieldsList-from_range 0 n n refl (omega arith))
      (λ x q c. (keeps x true q c, sym (is x true q c))) (λ x q c. sym (is x false q c)))
