-- Rows and columns, compared from end to end, are the test of alike: a row's place is one right and one receiver, and a line is one
-- sender and one right. Assumes nothing.
use mathlib.Core.Path.{◌≡◌, refl, sym, ◌∙◌, subst}
use mathlib.Core.Bool.{Bool, true, false}
use mathlib.Core.List.{List}
use mathlib.Core.Logic.{◌≢◌}
use Prim.Native.Nat.{ℕ, ◌+◌, ◌*◌, ◌/◌, ◌%◌, ◌≤◌, ◌<◌}
use native.Mathlib.Omega.{arith}
use borrow.Author.Tests.{ne_eqb}
use lib.Arith.{digits_lt}
use lib.Dec.{T, eqb, eqb→eq}
use lib.ListN.{length, get_or}
use Rattle.std.specs.Bool.{MatchBool}
use Rattle.model.specs.Below.{all}
use Rattle.model.specs.Matrix.{cell, Laid, row_of}
use Rattle.model.specs.Alike.{SameRows, rows_test, flip, alike_test}
use Rattle.model.proofs.Tests.{same_test_lem, true_of, eqb_of}
use Rattle.model.proofs.Below.{all_at, all_of}
use Rattle.model.proofs.Loops.{all_fails}
use Rattle.model.proofs.Rows.{inside, passed, row_length, rows_told, row_at}
use Rattle.model.proofs.Places.{spot, small}
use Rattle.model.proofs.Alike.{rows_sound, rows_complete}
use Rattle.lines.specs.Lines.{agree_test, same_test, columns_test}

-- ---- answers at each number

-- an answer that is yes where each of the first e numbers passes, and no where one of them fails, is the test
pub agree_told : (b : Bool) (e : ℕ) (f g : ℕ → ℕ) {Yes No : ℕ → Type 0}
    → MatchBool b ((j : ℕ) → j < e → Yes j) ((j : ℕ) × (j < e) × No j)
    → ((j : ℕ) → Yes j → f j ≡ g j) → ((j : ℕ) → No j → f j ≢ g j) → b ≡ agree_test e f g
unfolding agree_test
agree_told true e f g all same other = sym (true_of _ (all_of e (λ i. eqb (f i) (g i)) (λ j l. eqb_of (f j) (g j) (same j (all j l)))))
agree_told false e f g one same other =
    sym (all_fails e one.0 (λ i. eqb (f i) (g i)) one.1 (ne_eqb (f one.0) (g one.0) (other one.0 one.2)))

-- ---- rows and columns of a matrix

-- no step of finding a line's cell is large
pub record Line (n size j x : ℕ) : Type 0 where
  pub start : j * n ≤ 32768
  pub inside : j * n + x < size
  pub few : size ≤ 32768

pub line : {n k j x : ℕ} {m : List ℕ} → Laid n k m → j < n * k → x < n → Line n (length m) j x
line {n} {k} {j} {x} {m} L h l =
    let few : length m ≤ 32768 = omega (arith, (small L.entities L.rights L.entities).cells, L.size) in
    let inside : j * n + x < n * k * n = digits_lt h l in
    record { start = omega (arith, L.size); inside = omega (arith, L.size); few = few }

module _ (n k : ℕ) (m : List ℕ) (L : Laid n k m) where
  module _ (u v : ℕ) (h : u < n) (l : v < n) where
    abbrev r : List ℕ
    r = row_of n k m u

    abbrev s : List ℕ
    s = row_of n k m v

    rows_same : same_test (length r) r s ≡ rows_test n k (cell k n m) u v
    unfolding agree_test SameRows
    rows_same = same_test_lem (all (length r) at) (rows_test n k (cell k n m) u v)
        (λ t. rows_complete n k (cell k n m) u v (λ a x b w.
        sym (row_at n k m u a x b w)
        ∙ eqb→eq (get_or r (a * n + x) 0) (get_or s (a * n + x) 0) (all_at (length r) at t (a * n + x) (rw long (digits_lt b w)))
        ∙ row_at n k m v a x b w))
        (λ t. all_of (length r) at (λ i w.
        let p = spot k n i (rw long at w) in
        let same = rows_sound n k (cell k n m) u v t (i / n) (i % n) p.line p.rest in
        subst (λ j. T (at j)) (sym p.is) (eqb_of (get_or r (i / n * n + i % n) 0) (get_or s (i / n * n + i % n) 0)
        (row_at n k m u (i / n) (i % n) p.line p.rest ∙ same ∙ sym (row_at n k m v (i / n) (i % n) p.line p.rest)))))
      where
        at : ℕ → Bool
        at i = eqb (get_or r i 0) (get_or s i 0)

        long : length r ≡ k * n
        long = row_length n k m u (inside L h)

    columns_same : columns_test (n * k) n m u v ≡ rows_test n k (flip (cell k n m)) u v
    unfolding agree_test SameRows cell
    columns_same = same_test_lem (all (n * k) at) (rows_test n k (flip (cell k n m)) u v)
        (λ t. rows_complete n k (flip (cell k n m)) u v (λ a x b w.
        eqb→eq (get_or m ((x * k + a) * n + u) 0) (get_or m ((x * k + a) * n + v) 0) (all_at (n * k) at t (x * k + a) (digits_lt w b))))
        (λ t. all_of (n * k) at (λ i w.
        let p = spot n k i w in
        let same = rows_sound n k (flip (cell k n m)) u v t (i % k) (i / k) p.rest p.line in
        subst (λ j. T (at j)) (sym p.is) (eqb_of (get_or m ((i / k * k + i % k) * n + u) 0) (get_or m ((i / k * k + i % k) * n + v) 0) same)))
      where
        at : ℕ → Bool
        at i = eqb (get_or m (i * n + u) 0) (get_or m (i * n + v) 0)

    -- the two ends of `same`, where b tells of the parts of the matrix that are passed
    module _ (b : Bool) (e : b ≡ same_test (length (passed n k m u)) (passed n k m u) (passed n k m v)) where
      told : rows_test n k (cell k n m) u v ≡ b
      told = sym rows_same ∙ rows_told n k m u v (λ r s. same_test (length r) r s) b e

      pub rows_differ : b ≡ false → b ≡ alike_test n k (cell k n m) u v
      unfolding alike_test
      rows_differ f = f ∙ rw (told, f) refl

      pub rows_then_columns : b ≡ true → columns_test (n * k) n m u v ≡ alike_test n k (cell k n m) u v
      unfolding alike_test
      rows_then_columns f = rw (told, f) columns_same
