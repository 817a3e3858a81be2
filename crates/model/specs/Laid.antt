-- What is said of a matrix, or of a policy, that is within the limits. Assumes nothing.
use Rattle.std.specs.Prelude.{Bool, ℕ, Result, Ok, Err}
use Rattle.model.specs.declared.Matrix.{Matrix}
use Rattle.model.specs.declared.Policy as declared
use Rattle.model.specs.declared.Refusal.{Refusal}
use Rattle.model.specs.Matrix.{Cells, cell}
use Rattle.model.specs.Alike.{alike_test}
use Rattle.model.specs.Policy.{Policy, policy}
use Rattle.model.specs.Refusal.{Checked}

-- its cells
abbrev pub logged : Matrix → Cells
logged m = cell m.k m.n m.cells.now

-- whether two of its entities are alike
abbrev pub alike : Matrix → ℕ → ℕ → Bool
alike m = alike_test m.n m.k (logged m)

-- the policy that it is
abbrev pub granting : declared.Policy → Policy
granting p = policy p.domains p.assignment.now p.table.now

-- what tests find that hand something out
abbrev pub finding : {A : Type 0} → Result A Refusal → Checked
finding (Ok _) = Ok tt
finding (Err r) = Err r
