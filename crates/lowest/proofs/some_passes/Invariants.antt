-- `lowest::some_passes` meets its contract. The invariant: `found` says whether one of the bytes so far passes. Assumes nothing.
use Rattle.std.specs.Prelude.{◌≡◌, ℕ, Bool, ◌<◌, get_or}
use Rattle.model.specs.Below.{any}
use Rattle.lowest.proofs.some_passes.Given as goal

abbrev pub invariant-loop-x : goal.invariant-loop-x
invariant-loop-x g l = (p : ℕ → Bool) → ((x : ℕ) (y : Bool) → x < 256 → goal.F-post g l.test x y → y ≡ p x)
    → l.found ≡ any l.x-index (λ i. p (get_or l.s i 0))
