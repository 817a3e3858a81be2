-- The scan for the first conflict: it has come to cell (u, a, v), which stands at i, and no cell before is a conflict. That cell is the
-- first conflict, or the scan comes to the next; after the last cell there is none. Assumes nothing.
use mathlib.Core.Path.{◌≡◌, sym, ap, ◌∙◌}
use mathlib.Core.Bool.{Bool, true, false}
use mathlib.Core.List.{List}
use Prim.Native.Nat.{ℕ, ◌+◌, ◌*◌, ◌<◌}
use native.Mathlib.Omega.{arith}
use lib.ListN.{length, get_or}
use Rattle.model.specs.Below.{first}
use Rattle.model.specs.Matrix.{cell_at, cell, Laid}
use Rattle.model.specs.Policy.{Policy, domain_of, Within, answer}
use Rattle.model.specs.Clash.{clash_test, first_clash}
use Rattle.model.proofs.Clashes.{clash_at, clash_cell}
use Rattle.model.proofs.Loops.{first_next, first_here}
use Rattle.model.proofs.Places.{Steps, steps, cell_inside}
use Rattle.conflicts.specs.Conflict.{conflict}

-- whether cell i is a conflict
abbrev pub clashes : ℕ → ℕ → List ℕ → Policy → ℕ → Bool
clashes n k m P = clash_at n k (cell k n m) (answer k P)

pub record Clear (n k : ℕ) (m : List ℕ) (P : Policy) (u a v i : ℕ) : Type 0 where
  pub place : i ≡ cell_at k n u a v
  pub none : first i (clashes n k m P) ≡ i

-- where the table's cell for (u, a, v) stands
pub table_steps : {n k : ℕ} {P : Policy} {u a v : ℕ} → Within n k P → u < n → a < k → v < n
    → Steps P.domains k P.domains (get_or P.assignment u 0) a (get_or P.assignment v 0)
unfolding domain_of
table_steps {u = u} {v = v} W h b l = steps W.few W.rights W.few (W.valid.below u h) b (W.valid.below v l)

module _ {n k : ℕ} {m : List ℕ} {P : Policy} {u a v i : ℕ} (c : Clear n k m P u a v i) where
  -- past a row's last cell, past a sender's last row, past the last sender
  pub next_right : v ≡ n → Clear n k m P u (a + 1) 0 i
  next_right e = record { place = omega arith; none = c.none }

  pub next_sender : v ≡ 0 → a ≡ k → Clear n k m P (u + 1) 0 0 i
  next_sender z e = record { place = c.place ∙ rw (z, e) (omega arith); none = c.none }

  pub end : v ≡ 0 → a ≡ 0 → u ≡ n → n * k * n ≡ conflict n k m P
  unfolding conflict first_clash
  end z o e =
      let q : i ≡ n * k * n = c.place ∙ rw (z, o, e) (omega arith) in
      sym (ap (λ (j : ℕ). first j (clashes n k m P)) (sym q) ∙ c.none ∙ q)

  -- at a cell of the matrix
  module _ (h : u < n) (b : a < k) (l : v < n) where
    within : i < n * k * n
    within = rw c.place (cell_inside h b l)

    pub inside : Laid n k m → i < length m
    inside L = omega (arith, L.size, within)

    -- what the code reads there
    abbrev pub read : Bool
    read = clash_test (get_or m i 0) (get_or P.table (cell_at k P.domains (get_or P.assignment u 0) a (get_or P.assignment v 0)) 0)

    here : read ≡ clashes n k m P i
    unfolding cell answer domain_of
    here = rw c.place (sym (clash_cell n k (cell k n m) (answer k P) u a v b l))

    pub next : read ≡ false → Clear n k m P u a (v + 1) (i + 1)
    next f = record { place = omega (arith, c.place); none = first_next i (clashes n k m P) c.none (sym here ∙ f) }

    pub found : read ≡ true → i ≡ conflict n k m P
    unfolding conflict first_clash
    found f = sym (first_here (n * k * n) i (clashes n k m P) within c.none (sym here ∙ f))
