-- The table's cells, written in cell order: the cell that is next, (p, a, q), is the matrix cell from the member of p to the member
-- of q, and both places lie inside. And what the assignment takes over. Assumes nothing.
use mathlib.Core.Path.{◌≡◌, refl, sym, ap, ◌∙◌}
use mathlib.Core.List.{List, [], ◌∷◌}
use Prim.Native.Nat.{ℕ, zero, suc, ◌+◌, ◌*◌, ◌/◌, ◌%◌, ◌≤◌, ◌<◌}
use native.Mathlib.Omega.{arith}
use lib.ListN.{length, get_or, take}
use Rattle.model.specs.Below.{tab}
use Rattle.model.specs.Matrix.{cell_at, cell, Laid}
use Rattle.model.proofs.Places.{parts, steps}
use Rattle.classes.specs.declared.Classes.{Classes}
use Rattle.classes.specs.Members.{nth, Members}

module _ (n k d : ℕ) (m low : List ℕ) where
  -- what stands at i of the table
  abbrev pub table_cell : ℕ → ℕ
  table_cell i = cell k n m (get_or low (i / d / k) 0) (i / d % k) (get_or low (i % d) 0)

  pub table_cell_lem : (p a q to : ℕ) → to ≡ cell_at k d p a q → a < k → q < d
      → get_or m ((get_or low p 0 * k + a) * n + get_or low q 0) 0 ≡ table_cell to
  unfolding cell
  table_cell_lem p a q to e b l =
      let w = parts b l in
      sym (ap table_cell e ∙ λ i. cell k n m (get_or low (w.sender i) 0) (w.right i) (get_or low (w.receiver i) 0))

  -- where the code reads and writes
  pub record At (p a q to : ℕ) : Type 0 where
    pub reads : (get_or low p 0 * k + a) * n + get_or low q 0 < length m
    pub writes : to < d * k * d

  pub at : Laid n k m → Members n d low → (p a q to : ℕ) → to ≡ cell_at k d p a q → p < d → a < k → q < d → At p a q to
  at L low-n p a q to e h b l =
      let x = steps L.entities L.rights L.entities (low-n.each p h) b (low-n.each q l) in
      let few : d ≤ 64 = omega (arith, L.entities, low-n.few) in
      let y = steps few L.rights few h b l in
      record { reads = omega (arith, L.size, x.inside); writes = omega (arith, y.inside) }

-- the cells of the table of classes
abbrev pub cells_of : Classes → ℕ → ℕ
cells_of c = table_cell c.of.n c.of.k c.count c.of.cells.now c.members

-- the first n bytes of a list are those at the numbers below n
pub take_tab : (n : ℕ) (l : List ℕ) → n ≤ length l → take n l ≡ tab n (nth l)
unfolding tab
take_tab zero l h = refl
take_tab (suc n) [] h = absurd (omega arith)
take_tab (suc n) (x ∷ xs) h = ap (λ t. x ∷ t) (take_tab n xs (omega arith))
