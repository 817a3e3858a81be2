-- `lines::all_same` meets its contract. The invariant: the answer is yes at each number of the first b blocks. Assumes nothing.
use Rattle.std.proofs.Common.{ℕ, true, ◌*◌, ◌<◌}
use Rattle.lines.proofs.all_same.Given as goal

abbrev pub invariant-loop-b : goal.invariant-loop-b
invariant-loop-b g l = (x : ℕ) → x < l.b * g.row.BLOCK → goal.F-post g l.same x true
