-- `lines::block_same` meets its contract. The invariant: `all` is what was answered from i on, so far. Assumes nothing.
use Rattle.std.proofs.Common.{ℕ, true, false, ◌+◌, ◌≤◌, ◌<◌, MatchBool}
use Rattle.lines.proofs.block_same.Given as goal

abbrev pub invariant-loop-j : goal.invariant-loop-j
invariant-loop-j g l = MatchBool l.all
    ((x : ℕ) → l.i ≤ x → x < l.i + l.j → goal.F-post g l.same x true)
    ((x : ℕ) × (l.i ≤ x) × (x < l.i + l.j) × goal.F-post g l.same x false)
