-- Each piece of a layout has the texts that it is meant to have: from the layout to the text, from the text to the layout, and the piece
-- can be gone on with. It is shown for bytes, digits and cells, and carried over to pieces in a row and to repeated ones. Assumes nothing.
use mathlib.Core.Path.{◌≡◌, refl, sym, ap, ap₂, ◌∙◌, subst}
use mathlib.Core.Bool.{Bool, true, false, cond, ◌&&◌}
use mathlib.Core.List.{List, [], ◌∷◌, ◌++◌}
use Prim.Native.Nat.{ℕ, zero, suc, ◌+◌, ◌-◌, ◌*◌, ◌/◌, ◌%◌, ◌≤◌, ◌<◌}
use native.Mathlib.Decide.{dec_lt}
use native.Mathlib.Omega.{arith}
use borrow.Author.Tests.{eq-eqb, le-leb, lt-ltb, leb-true, ltb-true, eqb-true}
use lib.Dec.{eqb, leb, ltb}
use Rattle.layout.specs.Text.{one, two, cell_char}
use Rattle.layout.specs.Layout.{Layout, byte, digit_of, cell_of, text, digit, ten_test, unit_test, number}
use Rattle.layout.proofs.Places.{Of, Live}

and_true : (a b : Bool) → (a && b) ≡ true → (a ≡ true) × (b ≡ true)
and_true true b e = (refl, e)
and_true false b e = let z : ◌≡◌ {A = ℕ} 0 1 = cc in absurd (omega arith)

-- ---- characters and values

pub digit_value : (x : ℕ) → x < 10 → digit_of (48 + x) ≡ x
unfolding digit_of
digit_value x h = rw (le-leb 48 (48 + x) (omega arith), lt-ltb (48 + x) 58 (omega arith)) (omega arith)

pub digit_char : (x : ℕ) → digit_of x < 10 → x ≡ 48 + digit_of x
unfolding digit_of
digit_char x h = go (leb 48 x) (ltb x 58) refl refl h
  where
    go : (a b : Bool) → leb 48 x ≡ a → ltb x 58 ≡ b → cond (a && b) (x - 48) 10 < 10 → x ≡ 48 + cond (a && b) (x - 48) 10
    go true true e f l = omega (arith, leb-true 48 x e)
    go true false e f l = absurd (omega arith)
    go false b e f l = absurd (omega arith)

pub digit_small : (x : ℕ) → digit_of x ≤ 10
unfolding digit_of
digit_small x = go (leb 48 x) (ltb x 58) refl
  where
    go : (a b : Bool) → ltb x 58 ≡ b → cond (a && b) (x - 48) 10 ≤ 10
    go true true e = omega (arith, ltb-true x 58 e)
    go true false e = omega arith
    go false b e = omega arith

pub cell_value : (x : ℕ) → x < 3 → cell_of (cell_char x) ≡ x
unfolding cell_of
cell_value zero h = refl
cell_value (suc zero) h = refl
cell_value (suc (suc zero)) h = refl
cell_value (suc (suc (suc x))) h = absurd (omega arith)

cell_char_lem : (x : ℕ) → cell_of x < 3 → x ≡ cell_char (cell_of x)
unfolding cell_of
cell_char_lem x h = go (eqb x 48) (eqb x 49) (eqb x 42) refl refl refl h
  where
    go : (a b c : Bool) → eqb x 48 ≡ a → eqb x 49 ≡ b → eqb x 42 ≡ c → cond a 0 (cond b 1 (cond c 2 3)) < 3 → x ≡ cell_char (cond a 0 (cond b 1 (cond c 2 3)))
    go true b c p q r l = eqb-true x 48 p
    go false true c p q r l = eqb-true x 49 q
    go false false true p q r l = eqb-true x 42 r
    go false false false p q r l = absurd (omega arith)

-- ---- a piece, and what its texts say

-- the texts of the piece A are those of the x that are Ok
pub record Texts (X : Type 0) (Ok : X → Type 0) (f : X → List ℕ) (A : Layout → Layout) : Type 0 where
  pub into : (F : Layout) (s : List ℕ) → Of (A F) s → (x : X) × (t : List ℕ) × Ok x × (s ≡ f x ++ t) × Of F t
  pub from : (F : Layout) (x : X) (t : List ℕ) → Ok x → Of F t → Of (A F) (f x ++ t)
  pub live : (F : Layout) → Live F → Live (A F)

-- these bytes
text_in : (l : List ℕ) (F : Layout) (s : List ℕ) → Of (text l F) s → (t : List ℕ) × (s ≡ l ++ t) × Of F t
unfolding text
text_in [] F s h = (s, refl, h)
text_in (b ∷ l) F [] h = absurd h
text_in (b ∷ l) F (x ∷ s) h = let r = text_in l F s h.1 in (r.0, ap₂ (λ (y : ℕ) (z : List ℕ). y ∷ z) (sym (eqb-true b x h.0)) r.1, r.2)

text_of : (l : List ℕ) (F : Layout) (t : List ℕ) → Of F t → Of (text l F) (l ++ t)
unfolding text
text_of [] F t h = h
text_of (b ∷ l) F t h = (eq-eqb b b refl, text_of l F t h)

text_live : (l : List ℕ) (F : Layout) → Live F → Live (text l F)
unfolding text
text_live [] F h = h
text_live (b ∷ l) F h = ((b, eq-eqb b b refl), λ x e. text_live l F h)

pub texts_text : (l : List ℕ) → Texts (Unit {0}) (λ _. Unit {0}) (λ _. l) (text l)
texts_text l = record {
  into = λ F s h. let r = text_in l F s h in (tt, r.0, tt, r.1, r.2);
  from = λ F x t o h. text_of l F t h;
  live = text_live l;
}

-- a cell
pub texts_cell : (lim : ℕ) → 0 < lim → lim ≤ 3 → Texts ℕ (λ x. x < lim) (λ x. cell_char x ∷ []) (λ F. byte (λ x. ltb (cell_of x) lim) (λ _. F))
unfolding cell_of
texts_cell lim some few = record {
  into = into;
  from = λ F x t o h. (lt-ltb (cell_of (cell_char x)) lim (rw (cell_value x (omega arith)) o), h);
  live = λ F h. ((48, lt-ltb 0 lim some), λ x e. h);
}
  where
    into : (F : Layout) (s : List ℕ) → Of (byte (λ x. ltb (cell_of x) lim) (λ _. F)) s
        → (x : ℕ) × (t : List ℕ) × (x < lim) × (s ≡ (cell_char x ∷ []) ++ t) × Of F t
    into F [] h = absurd h
    into F (x ∷ s) h =
        let l = ltb-true (cell_of x) lim h.0 in
        (cell_of x, s, l, ap (λ (y : ℕ). y ∷ s) (cell_char_lem x (omega arith)), h.1)

-- ---- numbers, by which the layout may go on

module _ (lo hi : ℕ) (F : ℕ → Layout) where
  pub digit_in : hi ≤ 10 → (s : List ℕ) → Of (digit lo hi F) s → (x : ℕ) × (t : List ℕ) × ((lo ≤ x) × (x < hi)) × (s ≡ one x ++ t) × Of (F x) t
  unfolding digit
  digit_in w [] h = absurd h
  digit_in w (x ∷ s) h =
      let (e, f) = and_true (leb lo (digit_of x)) (ltb (digit_of x) hi) h.0 in
      let u = ltb-true (digit_of x) hi f in
      (digit_of x, s, (leb-true lo (digit_of x) e, u), ap (λ (y : ℕ). y ∷ s) (digit_char x (omega arith)), h.1)

  pub digit_of_lem : hi ≤ 10 → (x : ℕ) (t : List ℕ) → lo ≤ x → x < hi → Of (F x) t → Of (digit lo hi F) (one x ++ t)
  unfolding digit
  digit_of_lem w x t l u h =
      let e : digit_of (48 + x) ≡ x = digit_value x (omega arith) in
      (rw (e, le-leb lo x l, lt-ltb x hi u), subst (λ (y : ℕ). Of (F y) t) (sym e) h)

  pub digit_live : hi ≤ 10 → lo < hi → ((x : ℕ) → lo ≤ x → x < hi → Live (F x)) → Live (digit lo hi F)
  unfolding digit
  digit_live w h go = (
    (48 + lo, rw (digit_value lo (omega arith), le-leb lo lo (omega arith), lt-ltb lo hi h)),
    λ x p. let (e, f) = and_true (leb lo (digit_of x)) (ltb (digit_of x) hi) p in go (digit_of x) (leb-true lo (digit_of x) e) (ltb-true (digit_of x) hi f),
  )

  ten_of : (x : ℕ) → ten_test lo hi x ≡ true → (x * 10 < hi) × (lo < x * 10 + 10)
  ten_of x p = let (e, f) = and_true (ltb (x * 10) hi) (ltb lo (x * 10 + 10)) p in (ltb-true (x * 10) hi e, ltb-true lo (x * 10 + 10) f)

  unit_of : (x y : ℕ) → unit_test lo hi x y ≡ true → (y < 10) × (lo ≤ x * 10 + y) × (x * 10 + y < hi)
  unit_of x y p =
      let (e, f) = and_true (ltb y 10) (leb lo (x * 10 + y) && ltb (x * 10 + y) hi) p in
      let (g, h) = and_true (leb lo (x * 10 + y)) (ltb (x * 10 + y) hi) f in
      (ltb-true y 10 e, leb-true lo (x * 10 + y) g, ltb-true (x * 10 + y) hi h)

  ten_is : (x : ℕ) → x * 10 < hi → lo < x * 10 + 10 → ten_test lo hi x ≡ true
  ten_is x h l = rw (lt-ltb (x * 10) hi h, lt-ltb lo (x * 10 + 10) l)

  unit_is : (x y : ℕ) → y < 10 → lo ≤ x * 10 + y → x * 10 + y < hi → unit_test lo hi x y ≡ true
  unit_is x y b l h = rw (lt-ltb y 10 b, le-leb lo (x * 10 + y) l, lt-ltb (x * 10 + y) hi h)

  two_is : (t y : ℕ) → y < 10 → (48 + t) ∷ (48 + y) ∷ [] ≡ two (t * 10 + y)
  two_is t y h = let q : t ≡ (t * 10 + y) / 10 = omega arith in let r : y ≡ (t * 10 + y) % 10 = omega arith in λ i. (48 + q i) ∷ (48 + r i) ∷ []

  pub number_in : hi ≤ 100 → (s : List ℕ) → Of (number lo hi F) s → (x : ℕ) × (t : List ℕ) × ((lo ≤ x) × (x < hi)) × (s ≡ two x ++ t) × Of (F x) t
  unfolding number
  number_in w [] h = absurd h
  number_in w (x ∷ []) h = absurd h.1
  number_in w (x ∷ y ∷ s) h =
      let (a, b) = ten_of (digit_of x) h.0 in
      let (c, d, e) = unit_of (digit_of x) (digit_of y) h.1.0 in
      let chars = ap₂ (λ (p q : ℕ). p ∷ q ∷ []) (digit_char x (omega arith)) (digit_char y c) ∙ two_is (digit_of x) (digit_of y) c in
      (digit_of x * 10 + digit_of y, s, (d, e), ap (λ (l : List ℕ). l ++ s) chars, h.1.1)

  pub number_of : hi ≤ 100 → (x : ℕ) (t : List ℕ) → lo ≤ x → x < hi → Of (F x) t → Of (number lo hi F) (two x ++ t)
  unfolding number
  number_of w x t l u h =
      let a : digit_of (48 + x / 10) ≡ x / 10 = digit_value (x / 10) (omega arith) in
      let b : digit_of (48 + x % 10) ≡ x % 10 = digit_value (x % 10) (omega arith) in
      let q : x ≡ x / 10 * 10 + x % 10 = omega arith in (
        rw a (ten_is (x / 10) (omega arith) (omega arith)),
        (
          rw (a, b) (unit_is (x / 10) (x % 10) (omega arith) (omega arith) (omega arith)),
          subst (λ (y : ℕ). Of (F y) t) (q ∙ ap₂ (λ (y z : ℕ). y * 10 + z) (sym a) (sym b)) h,
        ),
      )

  pub number_live : hi ≤ 100 → lo < hi → ((x : ℕ) → lo ≤ x → x < hi → Live (F x)) → Live (number lo hi F)
  unfolding number
  number_live w h go = (
    (48 + lo / 10, rw (digit_value (lo / 10) (omega arith)) (ten_is (lo / 10) (omega arith) (omega arith))),
    λ x p.
        let (a, b) = ten_of (digit_of x) p in
        let (y, c, d, e) = unit_some (digit_of x) a b in (
          (48 + y, rw (digit_value y c) (unit_is (digit_of x) y c d e)),
          λ z q. let (f, g, i) = unit_of (digit_of x) (digit_of z) q in go (digit_of x * 10 + digit_of z) g i,
        ),
  )
    where
      unit_some : (x : ℕ) → x * 10 < hi → lo < x * 10 + 10 → (y : ℕ) × (y < 10) × (lo ≤ x * 10 + y) × (x * 10 + y < hi)
      unit_some x a b = pick (dec_lt (x * 10) lo)
        where
          pick : Dec (x * 10 < lo) → (y : ℕ) × (y < 10) × (lo ≤ x * 10 + y) × (x * 10 + y < hi)
          pick (yes l) = (lo - x * 10, omega arith, omega arith, omega arith)
          pick (no l) = (0, omega arith, omega arith, omega arith)

-- a number whose value does not matter for the rest
pub texts_number : (lo hi : ℕ) → lo < hi → hi ≤ 100 → Texts ℕ (λ x. (lo ≤ x) × (x < hi)) two (λ F. number lo hi (λ _. F))
texts_number lo hi h w = record {
  into = λ F s o. number_in lo hi (λ _. F) w s o;
  from = λ F x t b o. number_of lo hi (λ _. F) w x t b.0 b.1 o;
  live = λ F l. number_live lo hi (λ _. F) w h (λ _ _ _. l);
}
