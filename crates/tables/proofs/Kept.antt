-- No step of finding the cell that is next in a table is large. No function's proof cites it. Assumes nothing.
use mathlib.Core.Path.{◌≡◌}
use mathlib.Core.List.{List}
use Prim.Native.Nat.{ℕ, ◌+◌, ◌*◌, ◌≤◌, ◌<◌}
use native.Mathlib.Omega.{arith}
use lib.ListN.{length, get_or}
use Rattle.model.specs.Matrix.{cell_at, Laid}
use Rattle.model.proofs.Places.{steps, small as limits}
use Rattle.classes.specs.Members.{Members}

module _ (n k d : ℕ) (m low : List ℕ) where
  -- the steps that lead to where `At` reads and writes
  pub record Near (p a q to : ℕ) : Type 0 where
    pub rows : get_or low p 0 * k ≤ 512
    pub row : get_or low p 0 * k + a < 512
    pub from : (get_or low p 0 * k + a) * n ≤ 32768
    pub bound : length m ≤ 32768
    pub small : to < 32768

  pub near : Laid n k m → Members n d low → (p a q to : ℕ) → to ≡ cell_at k d p a q → p < d → a < k → q < d → Near p a q to
  near L low-n p a q to e h b l =
      let x = steps L.entities L.rights L.entities (low-n.each p h) b (low-n.each q l) in
      let few : d ≤ 64 = omega (arith, L.entities, low-n.few) in
      let y = steps few L.rights few h b l in
      let z = limits L.entities L.rights L.entities in
      record { rows = x.sender; row = x.row; from = x.start; bound = omega (arith, L.size, z.cells); small = omega (arith, y.place) }
