-- What a read answers, and what it leaves in the buffers (01, "The calls" and "Numbers of refusal"). Assumes nothing.
use Rattle.std.specs.Prelude.{◌≡◌, List, [], ◌∷◌, ◌++◌, ℕ, length, Result}
use Rattle.model.specs.declared.Fault.TheVariants.{AssignmentRoom, Room, FileForm}
use Rattle.model.specs.declared.Refusal.{Refusal}
use Rattle.model.specs.Policy.{Policy}
use Rattle.model.specs.Refusal.{Checked, checked, refusal, Told, told_refusal, tell, told, held}
use Rattle.model.specs.Rules.{room_rules}
use Rattle.layout.specs.Files.{MatrixFile, PolicyFile, MatrixFormed, PolicyFormed, Malformed}
use Rattle.places.specs.declared.MatrixSizes.{MatrixSizes}
use Rattle.places.specs.declared.PolicySizes.{PolicySizes}

-- what the reads answer: the numbers of what was read, or a refusal
abbrev pub ReadMatrix : Type 0
ReadMatrix = Result MatrixSizes Refusal

abbrev pub ReadPolicy : Type 0
ReadPolicy = Result PolicySizes Refusal

abbrev pub of_matrix : ℕ → ℕ → MatrixSizes
of_matrix n k = record { n = n; k = k }

abbrev pub of_policy : ℕ → ℕ → ℕ → PolicySizes
of_policy n k d = record { n = n; k = k; d = d }

-- the answers' numbers and values, case by case
abbrev pub matrix_values : MatrixSizes → List ℕ
matrix_values z = z.n ∷ z.k ∷ []

abbrev pub policy_values : PolicySizes → List ℕ
policy_values z = z.n ∷ z.k ∷ z.d ∷ []

abbrev pub read_matrix_told : ReadMatrix → Told
read_matrix_told r = told matrix_values r

abbrev pub read_policy_told : ReadPolicy → Told
read_policy_told r = told policy_values r

-- 11: room for the matrix in x
abbrev pub matrix_room : List ℕ → List ℕ → Checked
matrix_room m x = checked (room_rules Room (length x) (length m))

-- the file s is read: what is told, and what the buffer x becomes. The file is that of a matrix, and then 11 may apply; or 12 does
pub data MatrixRead (s x : List ℕ) (t : Told) (x' : List ℕ) : Type 0 where
  formed : (n k : ℕ) (m : List ℕ) → MatrixFile n k m s → t ≡ tell (matrix_room m x) (n ∷ k ∷ []) → x' ≡ held (matrix_room m x) m x → MatrixRead s x t x'
  malformed : (p : ℕ) → Malformed MatrixFormed s p → t ≡ told_refusal (refusal FileForm p) → x' ≡ x → MatrixRead s x t x'

-- 10: room for the assignment in x; 11: for the table in y
abbrev pub policy_room : Policy → List ℕ → List ℕ → Checked
policy_room P x y = checked (room_rules AssignmentRoom (length x) (length P.assignment) ++ room_rules Room (length y) (length P.table))

-- the same of a policy, with the buffers x and y
pub data PolicyRead (s x y : List ℕ) (t : Told) (x' y' : List ℕ) : Type 0 where
  formed : (n k : ℕ) (P : Policy) → PolicyFile n k P s → t ≡ tell (policy_room P x y) (n ∷ k ∷ P.domains ∷ [])
      → x' ≡ held (policy_room P x y) P.assignment x → y' ≡ held (policy_room P x y) P.table y → PolicyRead s x y t x' y'
  malformed : (p : ℕ) → Malformed PolicyFormed s p → t ≡ told_refusal (refusal FileForm p) → x' ≡ x → y' ≡ y → PolicyRead s x y t x' y'
