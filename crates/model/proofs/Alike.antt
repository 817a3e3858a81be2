-- Alike is equal rows and equal columns, the pair included (Lemma A.3, Observation 4.4 (2)): the own cells are what the rows and
-- columns say at u and v. So it is an equivalence (Proposition 2.12), and `alike_test` decides it. Assumes nothing.
use mathlib.Core.Path.{◌≡◌, refl, sym, ◌∙◌}
use mathlib.Core.Logic.{◌↔◌}
use Prim.Native.Nat.{ℕ, ◌<◌}
use native.Mathlib.Decide.{ℕ_discrete}
use lib.Dec.{T, eqb, eqb→eq}
use Rattle.model.specs.Below.{all}
use Rattle.model.specs.Matrix.{Cells}
use Rattle.model.specs.Alike.{Alike, SameRows, rows_test, flip, alike_test}
use Rattle.model.specs.Classes.{Equivalence}
use Rattle.model.proofs.Tests.{and_left, and_right, and_both, eqb_of}
use Rattle.model.proofs.Below.{all_at, all_of}
use Rattle.model.proofs.Classes.{Tests}

module _ (n k : ℕ) (M : Cells) where
  -- ---- equal rows

  pub rows_sound : (u v : ℕ) → T (rows_test n k M u v) → SameRows n k M u v
  unfolding rows_test SameRows
  rows_sound u v t a x b h =
      let row = all_at k (λ a. all n (λ x. eqb (M u a x) (M v a x))) t a b in
      eqb→eq (M u a x) (M v a x) (all_at n (λ x. eqb (M u a x) (M v a x)) row x h)

  pub rows_complete : (u v : ℕ) → SameRows n k M u v → T (rows_test n k M u v)
  unfolding rows_test SameRows
  rows_complete u v s = all_of k (λ a. all n (λ x. eqb (M u a x) (M v a x)))
      (λ a b. all_of n (λ x. eqb (M u a x) (M v a x)) (λ x h. eqb_of (M u a x) (M v a x) (s a x b h)))

  pub rows_itself : (u : ℕ) → SameRows n k M u u
  unfolding SameRows
  rows_itself u a x b h = refl

  pub rows_back : (u v : ℕ) → SameRows n k M u v → SameRows n k M v u
  unfolding SameRows
  rows_back u v s a x b h = sym (s a x b h)

  pub rows_on : (u v w : ℕ) → SameRows n k M u v → SameRows n k M v w → SameRows n k M u w
  unfolding SameRows
  rows_on u v w s t a x b h = s a x b h ∙ t a x b h

module _ (n k : ℕ) (M : Cells) where
  -- ---- Lemma A.3

  alike_rows : (u v : ℕ) → Alike n k M u v → SameRows n k M u v
  unfolding SameRows
  alike_rows u v e a x b m = go (ℕ_discrete x u) (ℕ_discrete x v)
    where
      go : Dec (x ≡ u) → Dec (x ≡ v) → M u a x ≡ M v a x
      go (yes p) _ = rw p ((e.own a b).0 ∙ (e.own a b).1)
      go (no p) (yes q) = rw q ((e.own a b).1 ∙ (e.own a b).2)
      go (no p) (no q) = e.sends a x b m p q

  -- the own cells read the other way round
  alike_flip : (u v : ℕ) → Alike n k M u v → Alike n k (flip M) u v
  alike_flip u v e = record {
    own = λ a b. let o = e.own a b in (o.0 ∙ o.1, sym o.1, o.1 ∙ o.2);
    sends = e.receives;
    receives = e.sends;
  }

module _ (n k : ℕ) (M : Cells) where
  alike_of : (u v : ℕ) → u < n → v < n → SameRows n k M u v → SameRows n k (flip M) u v → Alike n k M u v
  unfolding SameRows
  alike_of u v h l r c = record {
    own = λ a b. (c a u b h, r a v b l ∙ sym (c a v b l), c a v b l);
    sends = λ a x b m _ _. r a x b m;
    receives = λ a x b m _ _. c a x b m;
  }

  pub alike_iff : (u v : ℕ) → u < n → v < n → Alike n k M u v ↔ (SameRows n k M u v × SameRows n k (flip M) u v)
  alike_iff u v h l = (
    λ e. (alike_rows n k M u v e, alike_rows n k (flip M) u v (alike_flip n k M u v e)),
    λ s. alike_of u v h l s.0 s.1,
  )

  -- Proposition 2.12
  pub alike_equivalence : Equivalence n (Alike n k M)
  alike_equivalence = record {
    reflexive = λ u h. alike_of u u h h (rows_itself n k M u) (rows_itself n k (flip M) u);
    symmetric = λ u v h l e.
        let s = (alike_iff u v h l).0 e in
        alike_of v u l h (rows_back n k M u v s.0) (rows_back n k (flip M) u v s.1);
    transitive = λ u v w h l m e f.
        let s = (alike_iff u v h l).0 e in
        let t = (alike_iff v w l m).0 f in
        alike_of u w h m (rows_on n k M u v w s.0 t.0) (rows_on n k (flip M) u v w s.1 t.1);
  }

  -- ---- the test

  pub alike_sound : (u v : ℕ) → u < n → v < n → T (alike_test n k M u v) → Alike n k M u v
  unfolding alike_test
  alike_sound u v h l t = alike_of u v h l
      (rows_sound n k M u v (and_left (rows_test n k M u v) (rows_test n k (flip M) u v) t))
      (rows_sound n k (flip M) u v (and_right (rows_test n k M u v) (rows_test n k (flip M) u v) t))

  pub alike_complete : (u v : ℕ) → u < n → v < n → Alike n k M u v → T (alike_test n k M u v)
  unfolding alike_test
  alike_complete u v h l e =
      let s = (alike_iff u v h l).0 e in
      and_both (rows_test n k M u v) (rows_test n k (flip M) u v) (rows_complete n k M u v s.0) (rows_complete n k (flip M) u v s.1)

  pub alike_tests : Tests n (alike_test n k M)
  alike_tests = record {
    reflexive = λ u h. alike_complete u u h h (A.reflexive u h);
    symmetric = λ u v h l t. alike_complete v u l h (A.symmetric u v h l (alike_sound u v h l t));
    transitive = λ u v w h l m s t. alike_complete u w h m (A.transitive u v w h l m (alike_sound u v h l s) (alike_sound v w l m t));
  }
    where
      A : Equivalence n (Alike n k M)
      A = alike_equivalence
