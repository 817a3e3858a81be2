-- Where answers contradict a matrix (01, "Judge"). Assumes nothing.
use Rattle.std.specs.Prelude.{Bool, not, ◌&&◌, ◌||◌, ℕ, ◌*◌, ◌/◌, ◌%◌, eqb}
use Rattle.model.specs.Below.{first}
use Rattle.model.specs.Matrix.{Cells}

-- the answer g, in which 1 is a grant, contradicts the logged value x. The value 2 is contradicted by none
unfoldable pub clash_test : ℕ → ℕ → Bool
clash_test x g = (eqb x 1 && not (eqb g 1)) || (eqb x 0 && eqb g 1)

-- the first cell of M, in cell order, that the answers G contradict; the number of cells where there is none
unfoldable pub first_clash : ℕ → ℕ → Cells → Cells → ℕ
first_clash n k M G = first (n * k * n) (λ i. clash_test (M (i / n / k) (i / n % k) (i % n)) (G (i / n / k) (i / n % k) (i % n)))
