-- The conflict that is told (01, "Judge"). Assumes nothing.
use Rattle.std.specs.Prelude.{List, ℕ}
use Rattle.model.specs.Matrix.{cell}
use Rattle.model.specs.Policy.{Policy, answer}
use Rattle.model.specs.Clash.{first_clash}

-- the first cell of m that the policy contradicts, in cell order, or the number of cells
unfoldable pub conflict : ℕ → ℕ → List ℕ → Policy → ℕ
conflict n k m P = first_clash n k (cell k n m) (answer k P)
