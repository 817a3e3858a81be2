-- How far a file fits at each exit of a reader of a text, of cells, of a digit and of a number of two digits. Assumes nothing.
use mathlib.Core.Path.{◌≡◌, refl, sym, ap, ◌∙◌, subst}
use mathlib.Core.Bool.{Bool, true, false, ◌&&◌}
use mathlib.Core.List.{List, [], ◌∷◌}
use Prim.Native.Nat.{ℕ, zero, suc, ◌+◌, ◌-◌, ◌*◌, ◌≤◌, ◌<◌, min}
use native.Mathlib.Nat.{le_refl}
use native.Mathlib.Decide.{dec_lt}
use native.Mathlib.Omega.{arith}
use native.Mathlib.Numerals.{add-one}
use borrow.Author.Tests.{lt-ltb, le-ltb, le-leb, eq-eqb, ne_eqb, leb-false}
use lib.Dec.{T, eqb, leb, ltb, leb→le, ltb→lt}
use lib.ListN.{length, get_or}
use Rattle.model.specs.Below.{any}
use Rattle.model.proofs.Tests.{false_of}
use Rattle.model.proofs.Below.{any_at}
use Rattle.model.proofs.Slices.{part, part_length, part_at}
use Rattle.layout.specs.Layout.{Layout, byte, times, text, cells, digit, number}
use Rattle.layout.specs.Layout.{digit_of, cell_of, digit_at, ten_test, unit_test}
use Rattle.readers.specs.declared.Reader.{Reader}
use Rattle.readers.specs.Pieces.{place, ahead, Whole, Misfit}
use Rattle.readers.proofs.Steps.{byte_out, byte_off, byte_on, Goes, times_none, times_on, times_off, read_on, read_off}

-- ---- pieces of one byte each: a text byte by byte, cells

abbrev pub letter : List ℕ → ℕ → Layout → Layout
letter t i F = byte (eqb (get_or t i 0)) (λ _. F)

abbrev pub cell_below : ℕ → ℕ → Layout → Layout
cell_below lim i F = byte (λ x. ltb (cell_of x) lim) (λ _. F)

-- the first of the pieces taken out
times_first : (c : ℕ) (A : ℕ → Layout → Layout) (F : Layout) → times (suc c) A F ≡ A 0 (times c (λ i. A (suc i)) F)
unfolding times
times_first zero A F = refl
times_first (suc c) A F = times_first c A (A (suc c) F)

-- a text is its bytes
text_letters : (t : List ℕ) (F : Layout) → text t F ≡ times (length t) (letter t) F
unfolding text times
text_letters [] F = refl
text_letters (b ∷ t) F = ap (λ R. byte (eqb b) (λ _. R)) (text_letters t F) ∙ sym (times_first (length t) (letter (b ∷ t)) F)

-- a reader of the text t has read i of its bytes
abbrev pub Letters : Reader → Reader → List ℕ → ℕ → Type 0
Letters r q t i = Whole r q (i * 1) (times i (letter t)) (λ F. F)

module _ {r q : Reader} (t : List ℕ) (i : ℕ) (g : Letters r q t i) where
  pub text_all : i ≡ length t → Whole r q (length t) (text t) (λ F. F)
  text_all h = record {
    stands = omega (arith, g.stands);
    goes = λ F. rw (text_letters t F, ← h) (g.goes F);
  }

  pub text_on : {q' : Reader} → q'.file.now ≡ q.file.now → q'.at ≡ q.at + 1 → q.at < length q.file.now
      → get_or q.file.now q.at 0 ≡ get_or t i 0 → Letters r q' t (i + 1)
  text_on e a h d = read_on (letter t) g record {
    stands = a;
    goes = λ F. rw (e, a) (byte_on _ _ q.file.now q.at h (eq-eqb _ _ (sym d)));
  }

  module _ (e : q.file.now ≡ r.file.now) (l : i < length t) where
    off : Misfit q 1 q.at (letter t i) → Misfit r (length t) q.at (text t)
    off f = let h = read_off (letter t) g (length t) e l f in record {
      short = omega (arith, h.short);
      inside = h.inside;
      stops = λ F. rw (text_letters t F) (h.stops F);
    }

    pub text_out : q.at ≡ length q.file.now → Misfit r (length t) q.at (text t)
    text_out h = off record { short = omega arith; inside = omega arith; stops = λ F. byte_out _ _ q.file.now q.at (omega arith) }

    pub text_off : q.at < length q.file.now → (get_or q.file.now q.at 0 ≡ get_or t i 0 → ⊥) → Misfit r (length t) q.at (text t)
    text_off h d = off record {
      short = omega arith;
      inside = omega arith;
      stops = λ F. byte_off _ _ q.file.now q.at h (ne_eqb _ _ (λ x. d (sym x)));
    }

-- ---- cells

-- where no byte is a stray one each is a cell below lim
pub all_cells : (lim : ℕ) (s : List ℕ) → any (length s) (λ i. leb lim (cell_of (get_or s i 0))) ≡ false
    → (k : ℕ) → k < length s → cell_of (get_or s k 0) < lim
all_cells lim s none k h =
    let stray : ℕ → Bool = λ i. leb lim (cell_of (get_or s i 0)) in
    leb-false _ _ (false_of (stray k) (λ t. subst T none (any_at _ stray k h t)))

-- the row of w bytes from the reader on, or of as many as there are, n: how far the file fits where the first i of them are cells below lim
module _ (lim w : ℕ) (r : Reader) (n : ℕ) (e : n ≡ min w (length r.file.now - r.at)) where
  abbrev row : List ℕ
  row = part r.file.now r.at (r.at + n)

  few : r.at + n ≤ length r.file.now
  few = omega (arith, r.inside)

  row_length : length row ≡ n
  row_length = let l = part_length r.file.now r.at (r.at + n) (omega arith) few in omega (arith, l)

  in_row : (k : ℕ) → k < n → get_or row k 0 ≡ get_or r.file.now (r.at + k) 0
  in_row k h = part_at r.file.now r.at (r.at + n) (omega arith) few k (omega arith)

  module _ (i : ℕ) (l : i ≤ n) (are : (k : ℕ) → k < i → cell_of (get_or row k 0) < lim) where
    first_goes : (k : ℕ) → k ≤ i → Goes r.file.now r.at r.file.now (r.at + k) (times k (cell_below lim))
    first_goes zero h = let z : r.at + 0 ≡ r.at = omega arith in rw z (times_none _ _ _)
    first_goes (suc k) h =
        let s = r.file.now in
        let at : ℕ = r.at + k in
        let more : r.at + suc k ≡ r.at + k + 1 = omega arith in
        let is = in_row k (omega arith) in
        let small : cell_of (get_or s (r.at + k) 0) < lim = rw (← is) (are k (omega arith)) in
        let next : Goes s at s (at + 1) (cell_below lim k) = λ F. byte_on _ _ s at (omega (arith, few)) (lt-ltb _ _ small) in
        rw (more, ← add-one k) (times_on _ _ _ _ _ k (first_goes k (omega arith)) _ _ next)

    row_off : i < w → ((F : Layout) → place r.file.now (r.at + i) (cell_below lim i F) ≡ r.at + i) → Misfit r w (r.at + i) (cells lim w)
    unfolding cells
    row_off m f = record {
      short = omega arith;
      inside = omega (arith, few);
      stops = times_off _ _ _ _ _ i (first_goes i (le_refl i)) w _ f m;
    }

  -- a byte is none
  pub cells_off : (i : ℕ) → i < length row → lim ≤ cell_of (get_or row i 0) → ((k : ℕ) → k < i → cell_of (get_or row k 0) < lim)
      → Misfit r w (r.at + i) (cells lim w)
  cells_off i h o are =
      let m : i < n = omega (arith, row_length) in
      let is = in_row i m in
      let other : lim ≤ cell_of (get_or r.file.now (r.at + i) 0) = rw (← is) o in
      row_off i (omega arith) are (omega arith) (λ F. byte_off _ _ r.file.now (r.at + i) (omega (arith, few)) (le-ltb _ _ other))

  module _ (are : (k : ℕ) → k < length row → cell_of (get_or row k 0) < lim) where
    each : (k : ℕ) → k < n → cell_of (get_or row k 0) < lim
    each k h = are k (omega (arith, row_length))

    -- the file ends behind them
    pub cells_out : length row < w → Misfit r w (r.at + n) (cells lim w)
    cells_out m = row_off n (le_refl n) each (omega (arith, row_length)) (λ F. byte_out _ _ r.file.now (r.at + n) (omega (arith, row_length, few)))

    -- they are all w
    pub cells_all : {q : Reader} → w ≤ length row → q.file.now ≡ r.file.now → q.at ≡ r.at + n → Whole r q w (cells lim w) (λ F. F)
    unfolding cells
    cells_all m f a =
        let all : n ≡ w = omega (arith, row_length) in record {
          stands = omega arith;
          goes = rw (f, a, ← all) (first_goes n (le_refl n) each n (le_refl n));
        }

-- ---- numbers of one digit and of two

-- a test that must not pass fails
fails : (a b : Bool) → (T a → T b → ⊥) → (a && b) ≡ false
fails true true f = absurd (f tt tt)
fails true false f = refl
fails false b f = refl

module _ (lo hi x : ℕ) where
  digit_no : (lo ≤ x → x < hi → ⊥) → (leb lo x && ltb x hi) ≡ false
  digit_no f = fails (leb lo x) (ltb x hi) (λ a b. f (leb→le lo x a) (ltb→lt x hi b))

  ten_no : (x * 10 < hi → lo < x * 10 + 10 → ⊥) → ten_test lo hi x ≡ false
  ten_no f = fails (ltb (x * 10) hi) (ltb lo (x * 10 + 10)) (λ a b. f (ltb→lt (x * 10) hi a) (ltb→lt lo (x * 10 + 10) b))

unit_no : (lo hi x y : ℕ) → (y < 10 → lo ≤ x * 10 + y → x * 10 + y < hi → ⊥) → unit_test lo hi x y ≡ false
unit_no lo hi x y f = go (dec_lt y 10)
  where
    go : Dec (y < 10) → unit_test lo hi x y ≡ false
    go (yes h) = rw (lt-ltb y 10 h) (digit_no lo hi (x * 10 + y) (f h))
    go (no h) = rw (le-ltb y 10 (omega arith))

module _ (lo hi : ℕ) (r : Reader) where
  pub digit_out : r.at ≡ length r.file.now → Misfit r 1 r.at (digit lo hi)
  unfolding digit
  digit_out h = record { short = omega arith; inside = omega arith; stops = λ F. byte_out _ _ r.file.now r.at (omega arith) }

  pub number_out : r.at ≡ length r.file.now → Misfit r 2 r.at (number lo hi)
  unfolding number
  number_out h = record { short = omega arith; inside = omega arith; stops = λ F. byte_out _ _ r.file.now r.at (omega arith) }

  -- x stands there
  module _ (x : ℕ) (h : r.at < length r.file.now) (e : x ≡ digit_at r.file.now r.at) where
    pub digit_off : (lo ≤ x → x < hi → ⊥) → Misfit r 1 r.at (digit lo hi)
    unfolding digit
    digit_off f = record {
      short = omega arith;
      inside = omega arith;
      stops = λ F. byte_off _ _ r.file.now r.at h (digit_no lo hi (digit_at r.file.now r.at) (rw e at f));
    }

    pub digit_on : {q : Reader} → q.file.now ≡ r.file.now → q.at ≡ r.at + 1 → lo ≤ x → x < hi → Whole r q 1 (digit lo hi) (λ F. F x)
    unfolding digit
    digit_on d a l b =
        let low : lo ≤ digit_at r.file.now r.at = omega arith in
        let high : digit_at r.file.now r.at < hi = omega arith in
        record { stands = a; goes = λ F. rw (d, a, e) (byte_on _ _ r.file.now r.at h (rw (le-leb _ _ low, lt-ltb _ _ high))) }

    pub ten_off : (x * 10 < hi → lo < x * 10 + 10 → ⊥) → Misfit r 2 r.at (number lo hi)
    unfolding number
    ten_off f = record {
      short = omega arith;
      inside = omega arith;
      stops = λ F. byte_off _ _ r.file.now r.at h (ten_no lo hi (digit_at r.file.now r.at) (rw e at f));
    }

    -- it is the ten, and y the unit
    module _ (above : x * 10 < hi) (below : lo < x * 10 + 10) where
      -- what is to follow the ten
      unit : (ℕ → Layout) → Layout
      unit F = byte (λ y. unit_test lo hi x (digit_of y)) (λ y. F (x * 10 + digit_of y))

      ten_on : (F : ℕ → Layout) → ahead r (number lo hi F) ≡ place r.file.now (r.at + 1) (unit F)
      unfolding number unit
      ten_on F =
          let high : digit_at r.file.now r.at * 10 < hi = omega arith in
          let low : lo < digit_at r.file.now r.at * 10 + 10 = omega arith in
          rw e (byte_on _ _ r.file.now r.at h (rw (lt-ltb _ _ high, lt-ltb _ _ low)))

      pub unit_out : r.at + 1 ≡ length r.file.now → Misfit r 2 (r.at + 1) (number lo hi)
      unfolding unit
      unit_out l = record {
        short = omega arith;
        inside = omega arith;
        stops = λ F. ten_on F ∙ byte_out _ _ r.file.now (r.at + 1) (omega arith);
      }

      module _ (y : ℕ) (l : r.at + 1 < length r.file.now) (d : y ≡ digit_at r.file.now (r.at + 1)) where
        pub unit_off : (y < 10 → lo ≤ x * 10 + y → x * 10 + y < hi → ⊥) → Misfit r 2 (r.at + 1) (number lo hi)
        unfolding unit
        unit_off f = record {
          short = omega arith;
          inside = omega arith;
          stops = λ F. ten_on F ∙ byte_off _ _ r.file.now (r.at + 1) l (unit_no lo hi x (digit_at r.file.now (r.at + 1)) (rw d at f));
        }

        pub number_on : {q : Reader} → q.file.now ≡ r.file.now → q.at ≡ r.at + 1 + 1 → y < 10 → lo ≤ x * 10 + y → x * 10 + y < hi
            → Whole r q 2 (number lo hi) (λ F. F (x * 10 + y))
        unfolding unit
        number_on z a m b c =
            let small : digit_at r.file.now (r.at + 1) < 10 = omega arith in
            let low : lo ≤ x * 10 + digit_at r.file.now (r.at + 1) = omega arith in
            let high : x * 10 + digit_at r.file.now (r.at + 1) < hi = omega arith in
            record {
              stands = omega arith;
              goes = λ F. ten_on F
                  ∙ rw (z, a, d) (byte_on _ _ r.file.now (r.at + 1) l (rw (lt-ltb _ _ small, le-leb _ _ low, lt-ltb _ _ high)));
            }
