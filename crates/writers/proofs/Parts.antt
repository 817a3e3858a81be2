-- The characters of a part of all cells, as `writers::put_cells` writes them. Assumes nothing.
use mathlib.Core.Path.{◌≡◌, ap}
use mathlib.Core.List.{List}
use Prim.Native.Nat.{ℕ, ◌+◌, ◌≤◌}
use native.Mathlib.Omega.{arith}
use lib.ListN.{length, get_or}
use Rattle.model.specs.Below.{tab}
use Rattle.model.proofs.Below.{tab_same}
use Rattle.model.proofs.Slices.{part, part_length, part_at}
use Rattle.layout.specs.Text.{cell_char}

-- those of the w cells from i on
pub part_text : (l : List ℕ) (i w : ℕ) → i + w ≤ length l
    → tab (length (part l i (i + w))) (λ j. cell_char (get_or (part l i (i + w)) j 0)) ≡ tab w (λ j. cell_char (get_or l (i + j) 0))
part_text l i w h =
    let long : length (part l i (i + w)) ≡ w = omega (arith, part_length l i (i + w) (omega arith) h) in
    rw long (tab_same w _ _ (λ j b. ap cell_char (part_at l i (i + w) (omega arith) h j (omega arith))))
