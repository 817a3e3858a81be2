-- Pieces in a row, and repeated ones: numbers, cells, records. What a repeated piece says is a list. Assumes nothing.
use mathlib.Core.Path.{◌≡◌, refl, sym, ap, ap₂, ◌∙◌, subst}
use mathlib.Core.Bool.{Bool, true, false, cond}
use mathlib.Core.List.{List, [], ◌∷◌, ◌++◌, append_assoc}
use Prim.Native.Nat.{ℕ, zero, suc, ◌+◌, ◌*◌, ◌/◌, ◌%◌, ◌≤◌, ◌<◌}
use native.Mathlib.Omega.{arith}
use borrow.Author.Tests.{eq-eqb, ne_eqb, eqb-true, eqb-false}
use lib.Arith.{digits_lt, digits_div, digits_mod}
use lib.Dec.{eqb}
use lib.ListN.{get_or}
use Rattle.model.specs.Below.{tab}
use Rattle.model.proofs.Below.{length_tab, get_or_tab, tab_same}
use Rattle.model.proofs.Places.{spot}
use Rattle.model.proofs.Rules.{Filled}
use Rattle.layout.specs.Text.{each, two, cell_char, line, record_text}
use Rattle.layout.specs.Layout.{Layout, times, number, cells, numbers, record_of, records}
use Rattle.layout.proofs.Each.{each_same, each_one}
use Rattle.layout.proofs.Places.{Of, Live}
use Rattle.layout.proofs.Pieces.{Texts, texts_text, texts_cell, texts_number}

-- one piece behind another
pub texts_then : {X Y : Type 0} {Ok : X → Type 0} {Ok' : Y → Type 0} {f : X → List ℕ} {g : Y → List ℕ} {A B : Layout → Layout}
    → Texts X Ok f A → Texts Y Ok' g B → Texts (X × Y) (λ p. Ok p.0 × Ok' p.1) (λ p. f p.0 ++ g p.1) (λ F. A (B F))
texts_then {f = f} {g = g} {A = A} {B = B} a b = record {
  into = λ F s h.
      let (x, t, o, e, q) = a.into (B F) s h in
      let (y, t', o', e', q') = b.into F t q in
      ((x, y), t', (o, o'), e ∙ ap (λ (l : List ℕ). f x ++ l) e' ∙ sym (append_assoc (f x) (g y) t'), q');
  from = λ F p t o h.
      subst (Of (A (B F))) (sym (append_assoc (f p.0) (g p.1) t))
      (a.from (B F) p.0 (g p.1 ++ t) o.0 (b.from F p.1 t o.1 h));
  live = λ F h. a.live (B F) (b.live F h);
}

-- the same texts, said in another way
pub texts_as : {X Y : Type 0} {Ok : X → Type 0} {Ok' : Y → Type 0} {f : X → List ℕ} {g : Y → List ℕ} {A : Layout → Layout} → Texts X Ok f A
    → ((x : X) → Ok x → (y : Y) × Ok' y × (f x ≡ g y)) → ((y : Y) → Ok' y → (x : X) × Ok x × (f x ≡ g y)) → Texts Y Ok' g A
texts_as {f = f} {g = g} {A = A} a to back = record {
  into = λ F s h.
      let (x, t, o, e, q) = a.into F s h in
      let (y, o', e') = to x o in
      (y, t, o', e ∙ ap (λ (l : List ℕ). l ++ t) e', q);
  from = λ F y t o h. let (x, o', e) = back y o in subst (λ (l : List ℕ). Of (A F) (l ++ t)) e (a.from F x t o' h);
  live = a.live;
}

-- ---- c pieces

module _ {X : Type 0} (Ok : ℕ → X → Type 0) (f : ℕ → X → List ℕ) (A : ℕ → Layout → Layout) (x₀ : X) where
  -- x for c, and g for all others
  with_last : ℕ → X → (ℕ → X) → ℕ → X
  with_last c x g i = cond (eqb i c) x (g i)

  last_is : (c : ℕ) (x : X) (g : ℕ → X) → with_last c x g c ≡ x
  unfolding with_last
  last_is c x g = rw (eq-eqb c c refl)

  other_is : (c : ℕ) (x : X) (g : ℕ → X) (i : ℕ) → i < c → with_last c x g i ≡ g i
  unfolding with_last
  other_is c x g i h = rw (ne_eqb i c (λ e. omega arith))

  times_in : (c : ℕ) → ((i : ℕ) → i < c → Texts X (Ok i) (f i) (A i)) → (F : Layout) (s : List ℕ) → Of (times c A F) s
      → (g : ℕ → X) × (t : List ℕ) × ((i : ℕ) → i < c → Ok i (g i)) × (s ≡ each c (λ i. f i (g i)) ++ t) × Of F t
  unfolding times each
  times_in zero a F s h = ((λ _. x₀), s, (λ i l. absurd (omega arith)), refl, h)
  times_in (suc c) a F s h =
      let (g, t, o, e, q) = times_in c (λ i l. a i (omega arith)) (A c F) s h in
      let (x, t', o', e', q') = (a c (omega arith)).into F t q in
      let all : (i : ℕ) → i < suc c → Ok i (with_last c x g i) = ok c x g o o' in (
        with_last c x g,
        t',
        all,
        e ∙ ap (λ (l : List ℕ). each c (λ i. f i (g i)) ++ l) e' ∙ sym (append_assoc (each c (λ i. f i (g i))) (f c x) t')
            ∙ ap (λ (l : List ℕ). l ++ t') (sym (grown c x g)),
        q',
      )
    where
      ok : (c : ℕ) (x : X) (g : ℕ → X) → ((i : ℕ) → i < c → Ok i (g i)) → Ok c x → (i : ℕ) → i < suc c → Ok i (with_last c x g i)
      ok c x g o o' i h = go (eqb i c) refl
        where
          go : (b : Bool) → eqb i c ≡ b → Ok i (with_last c x g i)
          go true e = let q = eqb-true i c e in
              subst (λ (j : ℕ). Ok j (with_last c x g j)) (sym q) (subst (Ok c) (sym (last_is c x g)) o')
          go false e = let l : i < c = omega (arith, eqb-false i c e) in subst (Ok i) (sym (other_is c x g i l)) (o i l)

      grown : (c : ℕ) (x : X) (g : ℕ → X) → each c (λ i. f i (with_last c x g i)) ++ f c (with_last c x g c) ≡ each c (λ i. f i (g i)) ++ f c x
      grown c x g = ap₂ (λ (l m : List ℕ). l ++ m)
          (each_same c (λ i. f i (with_last c x g i)) (λ i. f i (g i)) (λ i h. ap (f i) (other_is c x g i h))) (ap (f c) (last_is c x g))

  times_of : (c : ℕ) → ((i : ℕ) → i < c → Texts X (Ok i) (f i) (A i)) → (F : Layout) (g : ℕ → X) (t : List ℕ) → ((i : ℕ) → i < c → Ok i (g i)) → Of F t
      → Of (times c A F) (each c (λ i. f i (g i)) ++ t)
  unfolding times each
  times_of zero a F g t o h = h
  times_of (suc c) a F g t o h =
      subst (Of (times c A (A c F))) (sym (append_assoc (each c (λ i. f i (g i))) (f c (g c)) t))
      (times_of c (λ i l. a i (omega arith)) (A c F) g (f c (g c) ++ t) (λ i l. o i (omega arith)) ((a c (omega arith)).from F (g c) t (o c (omega arith)) h))

  times_live : (c : ℕ) → ((i : ℕ) → i < c → Texts X (Ok i) (f i) (A i)) → (F : Layout) → Live F → Live (times c A F)
  unfolding times
  times_live zero a F h = h
  times_live (suc c) a F h = times_live c (λ i l. a i (omega arith)) (A c F) ((a c (omega arith)).live F h)

  pub texts_times : (c : ℕ) → ((i : ℕ) → i < c → Texts X (Ok i) (f i) (A i))
      → Texts (ℕ → X) (λ g. (i : ℕ) → i < c → Ok i (g i)) (λ g. each c (λ i. f i (g i))) (times c A)
  texts_times c a = record { into = times_in c a; from = times_of c a; live = times_live c a }

-- ---- numbers

-- a list for a function on the numbers below n
listed : {n b : ℕ} {g : ℕ → ℕ} → ((i : ℕ) → i < n → g i < b) → Filled n b (tab n g)
listed {n} {b} {g} h = record { long = length_tab n g; below = λ i l. let m = rw length_tab at l in rw (get_or_tab n g i m) (h i m) }

pub texts_numbers : (hi n : ℕ) → (0 < n → 0 < hi) → hi ≤ 100 → Texts (List ℕ) (Filled n hi) (λ l. each n (λ u. two (get_or l u 0))) (numbers hi n)
unfolding numbers
texts_numbers hi n some w = texts_as
    (texts_times (λ _ x. (0 ≤ x) × (x < hi)) (λ _. two) (λ _ F. number 0 hi (λ _. F)) 0 n (λ i h. texts_number 0 hi (some (omega arith)) w))
    (λ g o. (tab n g, listed (λ i h. (o i h).1), each_same n _ _ (λ i h. ap two (sym (get_or_tab n g i h)))))
    (λ l F. ((λ i. get_or l i 0), (λ i h. (omega arith, F.below i (rw F.long h))), refl))

-- ---- records

pub texts_cells : (lim w : ℕ) → 0 < lim → lim ≤ 3 → Texts (ℕ → ℕ) (λ g. (i : ℕ) → i < w → g i < lim) (λ g. tab w (λ i. cell_char (g i))) (cells lim w)
unfolding cells
texts_cells lim w some few = texts_as (texts_times (λ _ x. x < lim) (λ _ x. cell_char x ∷ []) _ 0 w (λ _ _. texts_cell lim some few))
    (λ g o. (g, o, each_one w (λ i. cell_char (g i)))) (λ g o. (g, o, each_one w (λ i. cell_char (g i))))

-- a record whose cells are g 0, g 1, ..
abbrev row_text : List ℕ → ℕ → ℕ → (ℕ → ℕ) → List ℕ
row_text mark w u g = line (mark ++ (two u ++ tab w (λ i. cell_char (g i))))

texts_record : (mark : List ℕ) (lim w u : ℕ) → 0 < lim → lim ≤ 3 → u < 100
    → Texts (ℕ → ℕ) (λ g. (i : ℕ) → i < w → g i < lim) (row_text mark w u) (record_of mark lim w u)
unfolding record_of
texts_record mark lim w u some few h = texts_as
    (texts_then (texts_text mark) (texts_then (texts_number u (suc u) (omega arith) (omega arith))
    (texts_then (texts_cells lim w some few) (texts_text (10 ∷ [])))))
    (λ x o. let e : x.1.0 ≡ u = omega (arith, o.1.0) in (x.1.1.0, o.1.1.0, joined x ∙ ap (λ (y : ℕ). row_text mark w y x.1.1.0) e))
    (λ g o. ((tt, (u, (g, tt))), (tt, ((omega arith, omega arith), (o, tt))), joined (tt, (u, (g, tt)))))
  where
    joined : (x : Unit {0} × (ℕ × ((ℕ → ℕ) × Unit {0})))
        → mark ++ (two x.1.0 ++ (tab w (λ i. cell_char (x.1.1.0 i)) ++ (10 ∷ []))) ≡ row_text mark w x.1.0 x.1.1.0
    joined x = sym (append_assoc mark (two x.1.0 ++ tab w (λ i. cell_char (x.1.1.0 i))) (10 ∷ []))

pub texts_records : (mark : List ℕ) (lim w c : ℕ) → 0 < lim → lim ≤ 3 → c ≤ 100
    → Texts (List ℕ) (Filled (c * w) lim) (λ l. each c (record_text mark w l)) (records mark lim w c)
unfolding records
texts_records mark lim w c some few h = texts_as
    (texts_times (λ _ g. (i : ℕ) → i < w → g i < lim) (row_text mark w) (record_of mark lim w) (λ _. 0) c
    (λ u l. texts_record mark lim w u some few (omega arith)))
    (λ g o. (
      flat g,
      listed (λ i l. inside g o i l),
      each_same c (λ u. row_text mark w u (g u)) (record_text mark w (flat g)) (λ u l.
          ap (λ (t : List ℕ). line (mark ++ (two u ++ t))) (tab_same w (λ i. cell_char (g u i)) (λ i. cell_char (get_or (flat g) (u * w + i) 0)) (λ i m.
          ap cell_char (sym (flat_at g u i l m))))),
    ))
    (λ l F. ((λ u i. get_or l (u * w + i) 0), (λ u b i m. F.below (u * w + i) (rw F.long (digits_lt b m))), refl))
  where
    flat : (ℕ → ℕ → ℕ) → List ℕ
    flat g = tab (c * w) (λ j. g (j / w) (j % w))

    flat_at : (g : ℕ → ℕ → ℕ) (u i : ℕ) → u < c → i < w → get_or (flat g) (u * w + i) 0 ≡ g u i
    flat_at g u i b m =
        get_or_tab (c * w) (λ j. g (j / w) (j % w)) (u * w + i) (digits_lt b m)
        ∙ ap₂ (λ (x y : ℕ). g x y) (digits_div u m) (digits_mod u m)

    inside : (g : ℕ → ℕ → ℕ) → ((u : ℕ) → u < c → (i : ℕ) → i < w → g u i < lim) → (j : ℕ) → j < c * w → g (j / w) (j % w) < lim
    inside g o j l = let p = spot c w j l in o (j / w) p.line (j % w) p.rest
