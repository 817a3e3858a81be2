-- A row that is written into a part of a buffer: the part's cells, and the buffer then. Assumes nothing.
use mathlib.Core.Path.{◌≡◌, sym, ap, ◌∙◌}
use mathlib.Core.List.{List, ◌++◌, append_assoc}
use Prim.Native.Nat.{ℕ, ◌+◌, ◌-◌, ◌≤◌}
use native.Mathlib.Omega.{arith}
use borrow.Rule.Slice.PartMut.{put_mid, Post-is}
use lib.ListN.{length, get_or, take, drop}
use lib.Seq.{sets, sets-eq}
use Rattle.model.specs.Below.{tab}
use Rattle.model.proofs.Below.{tab_same}
use Rattle.model.proofs.Slices.{part, part_length, part_at}
use Rattle.layout.specs.Layout.{cell_of}

-- the cells of a row that is a part of s
pub part_cells : (s : List ℕ) (from w : ℕ) → from + w ≤ length s
    → tab (length (part s from (from + w))) (λ i. cell_of (get_or (part s from (from + w)) i 0)) ≡ tab w (λ i. cell_of (get_or s (from + i) 0))
part_cells s from w h =
    let size : length (part s from (from + w)) ≡ w = omega (arith, part_length s from (from + w) (omega arith) h) in
    rw size (tab_same w _ _ (λ i l. ap cell_of (part_at s from (from + w) (omega arith) h i (omega arith))))

-- a part of a buffer that is written anew
pub part_sets : (out new : List ℕ) (to w : ℕ) → length new ≡ w → to + w ≤ length out → put_mid to (to + w - to) out new ≡ sets out to new
part_sets out new to w e h =
    ap (λ (z : List ℕ). take to out ++ (new ++ z)) (Post-is to (to + w) out (omega arith))
    ∙ sym (append_assoc (take to out) new (drop (to + w) out))
    ∙ rw (← e) (sym (sets-eq new out to (omega arith)))
