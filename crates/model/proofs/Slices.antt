-- A part of a slice, from i up to e: its length, and that its places are the slice's. Assumes nothing.
use mathlib.Core.Path.{◌≡◌, ◌∙◌}
use mathlib.Core.List.{List}
use Prim.Native.Nat.{ℕ, ◌+◌, ◌-◌, ◌≤◌, ◌<◌}
use native.Mathlib.Omega.{arith}
use lib.ListN.{length, get_or, take, drop, length-drop}
use lib.Seq.{length-take-le, get_or-take, get_or-drop}

abbrev pub part : List ℕ → ℕ → ℕ → List ℕ
part s i e = take (e - i) (drop i s)

module _ (s : List ℕ) (i e : ℕ) (h : i ≤ e) (l : e ≤ length s) where
  pub part_length : length (part s i e) ≡ e - i
  part_length = length-take-le (e - i) (drop i s) (rw length-drop (omega arith))

  pub part_at : (j : ℕ) → j < e - i → get_or (part s i e) j 0 ≡ get_or s (i + j) 0
  part_at j b = get_or-take (e - i) (drop i s) j 0 b ∙ get_or-drop i s j 0
