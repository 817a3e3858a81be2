-- Where a cell stands: inside the list, no step of computing its place is large, and every place is one cell's.
-- Assumes nothing.
use mathlib.Core.Path.{◌≡◌, sym, ap, ◌∙◌}
use mathlib.Core.Logic.{◌⊎◌, inl, inr}
use Prim.Native.Nat.{ℕ, zero, ◌+◌, ◌*◌, ◌/◌, ◌%◌, ◌≤◌, ◌<◌}
use native.Mathlib.Nat.{mul-le-mul, div-add-mod', mod-lt, div-lt_iff_lt-mul, mul-zero, eq-zero-or-pos}
use native.Mathlib.Omega.{arith}
use lib.Arith.{digits_lt, digits_div, digits_mod}
use Rattle.model.specs.Matrix.{Cells, cell_at, cell}
use Rattle.model.specs.Built.{table_of}
use Rattle.model.proofs.Below.{get_or_tab}

-- among x senders, k rights and y receivers
pub cell_inside : {x k y u a v : ℕ} → u < x → a < k → v < y → cell_at k y u a v < x * k * y
cell_inside h b l = digits_lt (digits_lt h b) l

-- within the limits no product is large
pub record Small (x k y : ℕ) : Type 0 where
  pub rows : x * k ≤ 512
  pub cells : x * k * y ≤ 32768

pub small : {x k y : ℕ} → x ≤ 64 → k ≤ 8 → y ≤ 64 → Small x k y
small h b l = record { rows = mul-le-mul h b; cells = mul-le-mul (mul-le-mul h b) l }

pub record Steps (x k y u a v : ℕ) : Type 0 where
  pub sender : u * k ≤ 512
  pub row : u * k + a < 512
  pub start : (u * k + a) * y ≤ 32768
  pub place : cell_at k y u a v < 32768
  pub inside : cell_at k y u a v < x * k * y

pub steps : {x k y u a v : ℕ} → x ≤ 64 → k ≤ 8 → y ≤ 64 → u < x → a < k → v < y → Steps x k y u a v
steps {x} {k} {y} {u} {a} {v} hx hk hy h b l =
    let r = small hx hk hy in
    let row : u * k + a < x * k = digits_lt h b in
    let inside : cell_at k y u a v < x * k * y = cell_inside h b l in
    record { sender = omega (arith, r.rows); row = omega (arith, r.rows); start = omega (arith, r.cells); place = omega (arith, r.cells); inside = inside }

-- place i among x lines of y: its line, and where it stands there
pub record Spot (x y i : ℕ) : Type 0 where
  pub line : i / y < x
  pub rest : i % y < y
  pub is : i ≡ i / y * y + i % y

pub spot : (x y i : ℕ) → i < x * y → Spot x y i
spot x y i h = record { line = (div-lt_iff_lt-mul some).1 h; rest = mod-lt i some; is = sym (div-add-mod' i y) }
  where
    some : zero < y
    some = go (eq-zero-or-pos y)
      where
        go : (y ≡ zero) ⊎ (zero < y) → zero < y
        go (inl e) = absurd (omega (arith, rw (e, mul-zero) at h))
        go (inr l) = l

-- the cell that stands at i
pub record Place (x k y i : ℕ) : Type 0 where
  pub sender : i / y / k < x
  pub right : i / y % k < k
  pub receiver : i % y < y
  pub is : i ≡ cell_at k y (i / y / k) (i / y % k) (i % y)

pub place : (x k y i : ℕ) → i < x * k * y → Place x k y i
place x k y i h =
    let s = spot (x * k) y i h in
    let t = spot x k (i / y) s.line in
    record { sender = t.line; right = t.rest; receiver = s.rest; is = s.is ∙ ap (λ z. z * y + i % y) t.is }

-- a cell's place gives the cell back
pub record Parts (k y u a v : ℕ) : Type 0 where
  pub sender : cell_at k y u a v / y / k ≡ u
  pub right : cell_at k y u a v / y % k ≡ a
  pub receiver : cell_at k y u a v % y ≡ v

pub parts : {k y u a v : ℕ} → a < k → v < y → Parts k y u a v
parts {k} {y} {u} {a} {v} b l = record {
  sender = rw (digits_div (u * k + a) l, digits_div u b);
  right = rw (digits_div (u * k + a) l, digits_mod u b);
  receiver = digits_mod (u * k + a) l;
}

pub table_at : (s t k : ℕ) (M : Cells) (r c : ℕ → ℕ) (p a q : ℕ) → p < s → a < k → q < t
    → cell k t (table_of s t k M r c) p a q ≡ M (r p) a (c q)
unfolding cell table_of
table_at s t k M r c p a q h b l =
    let w : Parts k t p a q = parts b l in
    get_or_tab _ _ (cell_at k t p a q) (cell_inside h b l)
    ∙ rw (w.sender, w.right, w.receiver)
