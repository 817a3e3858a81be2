-- Where a sender's row stands in the matrix, and that its cells are the matrix's. Assumes nothing.
use mathlib.Core.Path.{◌≡◌, sym, ap, ◌∙◌}
use mathlib.Core.Bool.{Bool}
use mathlib.Core.List.{List}
use Prim.Native.Nat.{ℕ, ◌+◌, ◌*◌, ◌≤◌, ◌<◌}
use native.Mathlib.Nat.{suc-mul, add-mul, mul_assoc, mul-le-mul, mul-le-mul_right, add-sub_cancel_left}
use native.Mathlib.Omega.{arith}
use lib.Arith.{digits_lt}
use lib.ListN.{length, get_or, take, drop, length-drop}
use lib.Seq.{length-take-le, get_or-take, get_or-drop}
use Rattle.model.specs.Matrix.{cell_at, cell, Laid, row_of}
use Rattle.model.proofs.Slices.{part}
use Rattle.model.proofs.Places.{small}

-- the row of u holds a right's cells at least, and lies inside the matrix, which is small
pub record Inside (k n u len : ℕ) : Type 0 where
  pub some : n ≤ k * n
  pub row : k * n ≤ 512
  pub ends : u * (k * n) + k * n ≤ len
  pub few : len ≤ 32768

pub inside : {n k u : ℕ} {m : List ℕ} → Laid n k m → u < n → Inside k n u (length m)
inside {n} {k} {u} {m} L h = record {
  some = omega (arith, mul-le-mul_right n L.right);
  row = mul-le-mul L.rights L.entities;
  ends = omega (arith, mul-le-mul_right (k * n) h, suc-mul u (k * n), mul_assoc n k n, L.size);
  few = omega (arith, (small L.entities L.rights L.entities).cells, L.size);
}

-- so the part of the matrix that is passed is the row, and what is told of the part is told of the row
abbrev pub passed : ℕ → ℕ → List ℕ → ℕ → List ℕ
passed n k m u = part m (u * (k * n)) (u * (k * n) + k * n)

module _ (n k : ℕ) (m : List ℕ) where
  row_part : (u : ℕ) → passed n k m u ≡ row_of n k m u
  row_part u = ap (λ i. take i (drop (u * (k * n)) m)) (add-sub_cancel_left (u * (k * n)) (k * n))

  pub row_told : (u : ℕ) (f : List ℕ → Bool) (b : Bool) → b ≡ f (passed n k m u) → f (row_of n k m u) ≡ b
  row_told u f b e = sym (e ∙ ap f (row_part u))

  pub rows_told : (u v : ℕ) (f : List ℕ → List ℕ → Bool) (b : Bool) → b ≡ f (passed n k m u) (passed n k m v) → f (row_of n k m u) (row_of n k m v) ≡ b
  rows_told u v f b e = sym (e ∙ λ i. f (row_part u i) (row_part v i))

  pub row_length : (u : ℕ) → Inside k n u (length m) → length (row_of n k m u) ≡ k * n
  row_length u I = length-take-le (k * n) (drop (u * (k * n)) m) (rw length-drop (omega (arith, I.ends)))

-- and the row's cells are the matrix's
pub row_at : (n k : ℕ) (m : List ℕ) (u a x : ℕ) → a < k → x < n → get_or (row_of n k m u) (a * n + x) 0 ≡ cell k n m u a x
unfolding cell
row_at n k m u a x b h =
    get_or-take (k * n) (drop (u * (k * n)) m) (a * n + x) 0 (digits_lt b h)
    ∙ get_or-drop (u * (k * n)) m (a * n + x) 0
    ∙ ap (λ i. get_or m i 0) place
  where
    place : u * (k * n) + (a * n + x) ≡ cell_at k n u a x
    place = omega (arith, mul_assoc u k n, add-mul (u * k) a n)
