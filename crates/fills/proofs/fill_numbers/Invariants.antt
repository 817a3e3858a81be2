-- `fills::fill_numbers` meets its contract. The invariant: the values of the first u numbers are written. Assumes nothing.
use mathlib.Core.Path.{◌≡◌}
use mathlib.Core.List.{List}
use Prim.Native.Nat.{ℕ, ◌+◌, ◌*◌}
use lib.Seq.{sets}
use Rattle.model.specs.Below.{tab}
use Rattle.layout.specs.Layout.{number_at}
use Rattle.fills.proofs.fill_numbers.Given as goal

abbrev pub value : List ℕ → ℕ → ℕ → ℕ
value s at u = number_at s (at + u * 2)

abbrev pub invariant-loop-u : goal.invariant-loop-u
invariant-loop-u l = l.out ≡ sets l.initial.out 0 (tab l.u (value l.s l.at))
