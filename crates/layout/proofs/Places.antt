-- The place of a layout: the files of a layout are those that it reaches past their end, and where it stops short, the bytes up to there
-- begin some file of the layout, and no more do, since every start that a layout allows can be gone on with. Assumes nothing.
use mathlib.Core.Path.{◌≡◌, refl, sym, ap, ◌∙◌, subst}
use mathlib.Core.Bool.{Bool, true, false, cond}
use mathlib.Core.List.{List, [], ◌∷◌, ◌++◌}
use Prim.Native.Nat.{ℕ, zero, suc, ◌≤◌, ◌<◌, zero-le, suc-le-suc}
use native.Mathlib.Omega.{arith}
use lib.ListN.{length, take}
use Rattle.layout.specs.Files.{Begins, Place, Malformed}
use Rattle.layout.specs.Layout.{Layout, end, byte, reach}

-- the file s is of the layout
abbrev pub Of : Layout → List ℕ → Type 0
Of end [] = Unit {0}
Of end (x ∷ s) = ⊥
Of (byte P F) [] = ⊥
Of (byte P F) (x ∷ s) = (P x ≡ true) × Of (F x) s

-- every start that the layout allows can be gone on with
abbrev pub Live : Layout → Type 0
Live end = Unit {0}
Live (byte P F) = ((x : ℕ) × (P x ≡ true)) × ((x : ℕ) → P x ≡ true → Live (F x))

some : (A : Layout) → Live A → (s : List ℕ) × Of A s
some end live = ([], tt)
some (byte P F) (w, go) = let r = some (F w.0) (go w.0 w.1) in (w.0 ∷ r.0, (w.1, r.1))

unlike : true ≡ false → ⊥
unlike e = let z : ◌≡◌ {A = ℕ} 0 1 = cc in omega arith

pub of_reach : (A : Layout) (s : List ℕ) → Of A s → reach A s ≡ suc (length s)
unfolding reach
of_reach end [] h = refl
of_reach end (x ∷ s) h = absurd h
of_reach (byte P F) [] h = absurd h
of_reach (byte P F) (x ∷ s) h = rw h.0 (ap suc (of_reach (F x) s h.1))

pub reach_of : (A : Layout) (s : List ℕ) → length s < reach A s → Of A s
unfolding reach
reach_of end [] h = tt
reach_of end (x ∷ s) h = omega arith
reach_of (byte P F) [] h = omega arith
reach_of (byte P F) (x ∷ s) h = go (P x) refl (λ l. reach_of (F x) s l) h
  where
    go : (b : Bool) → P x ≡ b → (length s < reach (F x) s → Of (F x) s) → suc (length s) < cond b (suc (reach (F x) s)) 0 → (P x ≡ true) × Of (F x) s
    go true e ih l = (e, ih (omega arith))
    go false e ih l = absurd (omega arith)

-- no byte fits
none : (A : Layout) → Live A → (s : List ℕ) → ((q : ℕ) → suc q ≤ length s → Begins (Of A) (take (suc q) s) → ⊥) → Place (Of A) s 0
none A live s never = record { within = zero-le; common = some A live; most = go }
  where
    go : (q : ℕ) → q ≤ length s → Begins (Of A) (take q s) → q ≤ 0
    go zero h b = zero-le
    go (suc q) h b = absurd (never q h b)

pub reach_place : (A : Layout) → Live A → (s : List ℕ) → reach A s ≤ length s → Place (Of A) s (reach A s)
unfolding reach
reach_place end live [] h = absurd (omega arith)
reach_place end live (x ∷ s) h = none end live (x ∷ s) (λ q l b. b.1)
reach_place (byte P F) live [] h = none (byte P F) live [] (λ q l b. omega arith)
reach_place (byte P F) live (x ∷ s) h = go (P x) refl (λ e l. reach_place (F x) (live.1 x e) s l) h
  where
    more : (p : ℕ) → Place (Of (F x)) s p → (q : ℕ) → q ≤ suc (length s) → Begins (Of (byte P F)) (take q (x ∷ s)) → q ≤ suc p
    more p r zero l b = zero-le
    more p r (suc q) l b = suc-le-suc (r.most q (omega arith) (b.0, b.1.1))

    go : (b : Bool) → P x ≡ b → (P x ≡ true → reach (F x) s ≤ length s → Place (Of (F x)) s (reach (F x) s))
        → cond b (suc (reach (F x) s)) 0 ≤ suc (length s) → Place (Of (byte P F)) (x ∷ s) (cond b (suc (reach (F x) s)) 0)
    go true e ih l =
        let r = ih e (omega arith) in
        record {
          within = suc-le-suc r.within;
          common = (r.common.0, (e, r.common.1));
          most = more (reach (F x) s) r;
        }
    go false e ih l = none (byte P F) live (x ∷ s) (λ q m b. unlike (sym b.1.0 ∙ e))

-- two descriptions of the same files have the same places
pub place_same : {W U : List ℕ → Type 0} {s : List ℕ} {p : ℕ} → ((l : List ℕ) → W l → U l) → ((l : List ℕ) → U l → W l) → Place W s p → Place U s p
place_same {s = s} {p = p} f g r = record {
  within = r.within;
  common = (r.common.0, f (take p s ++ r.common.0) r.common.1);
  most = λ q h b. r.most q h (b.0, g (take q s ++ b.0) b.1);
}

-- there is one place at most
pub place_one : {W : List ℕ → Type 0} {s : List ℕ} {p q : ℕ} → Place W s p → Place W s q → p ≡ q
place_one {p = p} {q = q} a b = omega (arith, a.most q b.within b.common, b.most p a.within a.common)

-- ---- so a layout decides which files are well formed, and finds the place

module _ (A : Layout) (live : Live A) (Formed : List ℕ → Type 0)
    (into : (s : List ℕ) → Of A s → Formed s) (from : (s : List ℕ) → Formed s → Of A s) (s : List ℕ) (r : ℕ) (e : r ≡ reach A s) where
  pub reach_formed : length s < r → Formed s
  reach_formed h = into s (reach_of A s (omega arith))

  pub reach_malformed : r ≤ length s → Malformed Formed s r
  reach_malformed h = record {
    not = λ f. omega (arith, of_reach A s (from s f));
    place = place_same into from (subst (Place (Of A) s) (sym e) (reach_place A live s (omega arith)));
  }
