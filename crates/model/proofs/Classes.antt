-- The classes of an equivalence, numbered by smallest member: one number for each class, none unused,
-- and no labelling that keeps the classes apart has fewer labels. Assumes nothing.
use mathlib.Core.Path.{◌≡◌, sym, ap, ◌∙◌, subst}
use mathlib.Core.Bool.{Bool}
use Prim.Native.Nat.{ℕ, ◌≤◌, ◌<◌}
use native.Mathlib.Nat.{le_antisymm}
use native.Mathlib.Omega.{arith}
use lib.Dec.{T, eqb, eqb→eq, eqb_refl}
use Rattle.model.specs.Below.{any, count}
use Rattle.model.specs.Classes.{Equivalence, smallest, is_smallest, classes, class_of, member_of}
use Rattle.model.specs.Policy.{labels}
use Rattle.model.proofs.Tests.{eqb_of}
use Rattle.model.proofs.Below.{First, first_of, first_is, any_at}
use Rattle.model.proofs.Count.{count_le, count_past, count_apart, count_injects, count_hits, count_all}

-- e is the test of an equivalence
abbrev pub Tests : ℕ → (ℕ → ℕ → Bool) → Type 0
Tests n e = Equivalence n (λ u v. T (e u v))

pub classes_le : (n : ℕ) (e : ℕ → ℕ → Bool) → classes n e ≤ n
unfolding classes
classes_le n e = count_le n (is_smallest n e)

module _ (n : ℕ) (e : ℕ → ℕ → Bool) (E : Tests n e) where
  -- the smallest member is a member, and none is smaller
  found : (u : ℕ) → u < n → First n (e u) u
  found u h = first_of n (e u) u h (E.reflexive u h)

  pub smallest_below : (u : ℕ) → u < n → smallest n e u < n
  unfolding smallest
  smallest_below u h = (found u h).below

  pub smallest_in : (u : ℕ) → u < n → T (e u (smallest n e u))
  unfolding smallest
  smallest_in u h = (found u h).passes

  smallest_le : (u v : ℕ) → u < n → v < n → T (e u v) → smallest n e u ≤ v
  unfolding smallest
  smallest_le u v h l t = (first_of n (e u) v l t).least

  smallest_less : (u v : ℕ) → u < n → v < n → T (e u v) → smallest n e u ≤ smallest n e v
  smallest_less u v h l t =
      let s = smallest_below v l in
      smallest_le u (smallest n e v) h s (E.transitive u v (smallest n e v) h l s t (smallest_in v l))

  pub smallest_under : (u : ℕ) → u < n → smallest n e u ≤ u
  smallest_under u h = smallest_le u u h h (E.reflexive u h)

  pub smallest_same : (u v : ℕ) → u < n → v < n → T (e u v) → smallest n e u ≡ smallest n e v
  smallest_same u v h l t = le_antisymm (smallest_less u v h l t) (smallest_less v u l h (E.symmetric u v h l t))

  pub smallest_is : (u : ℕ) → u < n → T (is_smallest n e (smallest n e u))
  unfolding is_smallest
  smallest_is u h =
      let s = smallest_below u h in
      eqb_of (smallest n e (smallest n e u)) (smallest n e u) (sym (smallest_same u (smallest n e u) h s (smallest_in u h)))

  pub class_below : (u : ℕ) → u < n → class_of n e u < classes n e
  unfolding class_of classes
  class_below u h = count_past (is_smallest n e) (smallest n e u) n (smallest_is u h) (smallest_below u h)

  -- one number for each class
  pub class_same : (u v : ℕ) → u < n → v < n → T (e u v) → class_of n e u ≡ class_of n e v
  unfolding class_of
  class_same u v h l t = ap (λ s. count s (is_smallest n e)) (smallest_same u v h l t)

  pub class_apart : (u v : ℕ) → u < n → v < n → class_of n e u ≡ class_of n e v → T (e u v)
  unfolding class_of
  class_apart u v h l q =
      let s = count_apart (is_smallest n e) (smallest n e u) (smallest n e v) (smallest_is u h) (smallest_is v l) q in
      let to : T (e u (smallest n e v)) = subst (λ x. T (e u x)) s (smallest_in u h) in
      let low = smallest_below v l in
      E.transitive u (smallest n e v) v h low l to (E.symmetric v (smallest n e v) l low (smallest_in v l))

  -- the numbers rise with the smallest members
  pub class_rises : (u v : ℕ) → u < n → smallest n e u < smallest n e v → class_of n e u < class_of n e v
  unfolding class_of
  class_rises u v h l = count_past (is_smallest n e) (smallest n e u) (smallest n e v) (smallest_is u h) l

  -- no number goes unused
  pub class_hit : (c : ℕ) → c < classes n e → (u : ℕ) × (u < n) × (class_of n e u ≡ c)
  unfolding classes class_of is_smallest
  class_hit c h =
      let r = count_hits n (is_smallest n e) c h in
      (r.0, r.1, rw (eqb→eq (smallest n e r.0) r.0 r.2) r.3)

  -- the member that stands for a class is its smallest
  pub member_is : (u : ℕ) → u < n → member_of n e (class_of n e u) ≡ smallest n e u
  unfolding member_of
  member_is u h =
      first_is n (λ w. eqb (class_of n e w) (class_of n e u)) (smallest n e u) (smallest_below u h)
      (eqb_of (class_of n e (smallest n e u)) (class_of n e u) (sym (class_same u (smallest n e u) h (smallest_below u h) (smallest_in u h))))
      (λ i l t.
      let m = lower i l in
      let q = smallest_same i u m h (class_apart i u m h (eqb→eq (class_of n e i) (class_of n e u) t)) in
      omega (arith, smallest_under i m))
    where
      lower : (i : ℕ) → i < smallest n e u → i < n
      lower i l = omega (arith, smallest_below u h)

  pub member_below : (u : ℕ) → u < n → member_of n e (class_of n e u) < n
  member_below u h = rw (member_is u h) (smallest_below u h)

  pub member_low : (c : ℕ) → c < classes n e → member_of n e c < n
  member_low c h = let u = class_hit c h in subst (λ x. member_of n e x < n) u.2 (member_below u.0 u.1)

  -- a labelling f by numbers below d that gives no two classes one label uses as many labels at least
  pub fewest : (d : ℕ) (f : ℕ → ℕ) → ((u : ℕ) → u < n → f u < d)
      → ((u v : ℕ) → u < n → v < n → f u ≡ f v → T (e u v)) → classes n e ≤ labels n d f
  unfolding classes is_smallest labels
  fewest d f low apart = count_injects n (is_smallest n e) d (λ p. any n (λ u. eqb (f u) p)) f (record {
    into = λ i h t. (low i h, any_at n (λ u. eqb (f u) (f i)) i h (eqb_refl (f i)));
    apart = λ i j h l s t q.
        sym (eqb→eq (smallest n e i) i s) ∙ smallest_same i j h l (apart i j h l q) ∙ eqb→eq (smallest n e j) j t;
  })

  -- every number has a member, so the numbering itself uses as many labels as there are classes
  pub all_used : labels n (classes n e) (class_of n e) ≡ classes n e
  unfolding labels
  all_used = count_all (classes n e) (λ p. any n (λ u. eqb (class_of n e u) p)) (λ c h.
      let r = class_hit c h in
      any_at n (λ u. eqb (class_of n e u) c) r.0 r.1 (eqb_of (class_of n e r.0) c r.2))
