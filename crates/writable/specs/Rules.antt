-- The rules of a write, in their order (01, "The calls" and "Numbers of refusal"). Assumes nothing.
use Rattle.std.specs.Prelude.{List, ◌++◌, ℕ, length}
use Rattle.model.specs.declared.Fault.TheVariants.{Room}
use Rattle.model.specs.Policy.{Policy}
use Rattle.model.specs.Refusal.{Rule}
use Rattle.model.specs.Rules.{size_rules, matrix_rules, assignment_rules, table_rules, room_rules}
use Rattle.layout.specs.Text.{matrix_text, policy_text}

-- a matrix: 1, 2, 3, 11, over a buffer of so many bytes
unfoldable pub matrix_write_rules : ℕ → ℕ → List ℕ → ℕ → List Rule
matrix_write_rules n k m room = size_rules n k 0 ++ (matrix_rules n k m ++ room_rules Room room (length (matrix_text n k m)))

-- a policy: 1, 5, 6, 7, 8, 11
unfoldable pub policy_write_rules : ℕ → ℕ → Policy → ℕ → List Rule
policy_write_rules n k P room =
    size_rules n k P.domains
    ++ (assignment_rules n P.domains P.assignment ++ (table_rules k P.domains P.table ++ room_rules Room room (length (policy_text n k P))))
