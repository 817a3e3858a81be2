-- The three tests on rows pass exactly if the clauses of Definition 2.11 hold, and so does `alike_test`. So it is their conjunction.
-- Assumes nothing.
use mathlib.Core.Path.{◌≡◌, ◌∙◌, subst}
use mathlib.Core.Bool.{Bool, true, false, ◌&&◌}
use mathlib.Core.Logic.{◌≢◌}
use mathlib.Core.List.{List}
use Prim.Native.Nat.{ℕ, ◌<◌}
use native.Mathlib.Decide.{ℕ_discrete}
use lib.Dec.{T, eqb, eqb→eq}
use Rattle.model.specs.Below.{all}
use Rattle.model.specs.Matrix.{Cells, cell, row_of}
use Rattle.model.specs.Alike.{Alike, alike_test}
use Rattle.model.proofs.Tests.{and_left, and_right, and_both, same_test_lem, eqb_of}
use Rattle.model.proofs.Below.{all_at, all_of}
use Rattle.model.proofs.Rows.{passed, rows_told, row_at}
use Rattle.model.proofs.Alike.{alike_sound, alike_complete}
use Rattle.clauses.specs.Clauses.{four_test, own_test, own_all_test, but_test, sends_test, sends_all_test, same_test, treats_test, treats_all_test}
use Rattle.clauses.proofs.Exits.{four_passes, but_first, but_second, but_other}

-- ---- the tests on plain values

four_at : (w x y z : ℕ) → T (four_test w x y z) → (w ≡ x) × (x ≡ y) × (y ≡ z)
unfolding four_test
four_at w x y z t =
    let s = and_right (eqb w x) (eqb x y && eqb y z) t in
    (eqb→eq w x (and_left (eqb w x) _ t), eqb→eq x y (and_left (eqb x y) _ s), eqb→eq y z (and_right (eqb x y) _ s))

but_at : (u v x : ℕ) (b : Bool) → T (but_test u v x b) → x ≢ u → x ≢ v → T b
but_at u v x b t f g = subst T (but_other u v x b f g) t

but_of : (u v x : ℕ) (b : Bool) → (x ≢ u → x ≢ v → T b) → T (but_test u v x b)
but_of u v x b h = go (ℕ_discrete x u) (ℕ_discrete x v)
  where
    go : Dec (x ≡ u) → Dec (x ≡ v) → T (but_test u v x b)
    go (yes e) _ = rw (but_first u v x b e) tt
    go (no f) (yes e) = rw (but_second u v x b f e) tt
    go (no f) (no g) = rw (but_other u v x b f g) (h f g)

-- ---- the clauses

module _ (n k : ℕ) (m : List ℕ) (u v : ℕ) (hu : u < n) (hv : v < n) where
  abbrev M : Cells
  M = cell k n m

  -- the tests, on rows
  abbrev own : ℕ → Bool
  own = own_test n (row_of n k m u) (row_of n k m v) u v

  abbrev sends : ℕ → ℕ → Bool
  sends = sends_test n (row_of n k m u) (row_of n k m v) u v

  abbrev same : ℕ → ℕ → Bool
  same x = same_test n (row_of n k m x) u v

  abbrev treats : ℕ → Bool
  treats x = treats_test n k (row_of n k m x) u v x

  -- and on the matrix, whose cells the rows' are
  own_cells : (a : ℕ) → a < k → own a ≡ four_test (M u a u) (M u a v) (M v a u) (M v a v)
  own_cells a b = rw (row_at n k m u a u b hu, row_at n k m u a v b hv, row_at n k m v a u b hu, row_at n k m v a v b hv)

  sends_cells : (a x : ℕ) → a < k → x < n → sends a x ≡ but_test u v x (eqb (M u a x) (M v a x))
  sends_cells a x b h = rw (row_at n k m u a x b h, row_at n k m v a x b h)

  same_cells : (a x : ℕ) → a < k → same x a ≡ eqb (M x a u) (M x a v)
  same_cells a x b = rw (row_at n k m x a u b hu, row_at n k m x a v b hv)

  -- each test and its clause, both ways
  abbrev o : Bool
  o = own_all_test n k (row_of n k m u) (row_of n k m v) u v

  abbrev s : Bool
  s = sends_all_test n k (row_of n k m u) (row_of n k m v) u v

  abbrev t : Bool
  t = treats_all_test n k m u v

  holds : T o → T s → T t → Alike n k M u v
  holds p q r = record {
    own = λ a b. four_at _ _ _ _ (subst T (own_cells a b) (all_at k own p a b));
    sends = λ a x b h f g.
        let e = all_at n (sends a) (all_at k (λ a. all n (sends a)) q a b) x h in
        eqb→eq _ _ (but_at u v x _ (subst T (sends_cells a x b h) e) f g);
    receives = λ a x b h f g.
        let e = but_at u v x (all k (same x)) (all_at n treats r x h) f g in
        eqb→eq _ _ (subst T (same_cells a x b) (all_at k (same x) e a b));
  }

  module _ (A : Alike n k M u v) where
    own_passes : T o
    own_passes = all_of k own (λ a b. let e = A.own a b in rw (own_cells a b, four_passes _ _ _ _ e.0 e.1 e.2) tt)

    sends_passes : T s
    sends_passes = all_of k (λ a. all n (sends a)) (λ a b. all_of n (sends a) (λ x h.
        rw (sends_cells a x b h) (but_of u v x _ (λ f g. eqb_of _ _ (A.sends a x b h f g)))))

    treats_passes : T t
    treats_passes = all_of n treats (λ x h. but_of u v x (all k (same x)) (λ f g. all_of k (same x) (λ a b.
        rw (same_cells a x b) (eqb_of _ _ (A.receives a x b h f g)))))

  -- so they are `alike_test`
  joined : (o && (s && t)) ≡ alike_test n k M u v
  joined = same_test_lem (o && (s && t)) (alike_test n k M u v)
      (λ p. let q = and_right o (s && t) p in alike_complete n k M u v hu hv (holds (and_left o (s && t) p) (and_left s t q) (and_right s t q)))
      (λ p. let A = alike_sound n k M u v hu hv p in and_both o (s && t) (own_passes A) (and_both s t (sends_passes A) (treats_passes A)))

  -- ---- what the calls tell, where p and q tell of the parts of the matrix that are passed

  module _ (p : Bool) (e : p ≡ own_all_test n k (passed n k m u) (passed n k m v) u v) where
    own_told : o ≡ p
    own_told = rows_told n k m u v (λ r s. own_all_test n k r s u v) p e

    pub own_fails : p ≡ false → false ≡ alike_test n k M u v
    own_fails g = rw (own_told ∙ g) at joined

    module _ (q : Bool) (f : q ≡ sends_all_test n k (passed n k m u) (passed n k m v) u v) (g : p ≡ true) where
      sends_told : s ≡ q
      sends_told = rows_told n k m u v (λ r s. sends_all_test n k r s u v) q f

      pub sends_fails : q ≡ false → false ≡ alike_test n k M u v
      sends_fails h = rw (own_told ∙ g, sends_told ∙ h) at joined

      pub treats_decides : q ≡ true → t ≡ alike_test n k M u v
      treats_decides h = rw (own_told ∙ g, sends_told ∙ h) at joined
