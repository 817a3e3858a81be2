-- What the build answers, and what it writes (01, "The calls" and "Numbers of refusal"). Assumes nothing.
use Rattle.std.specs.Prelude.{◌≡◌, List, [], ◌∷◌, ◌++◌, ℕ, ◌*◌, length, Result}
use Rattle.model.specs.declared.Fault.TheVariants.{AssignmentRoom, Room}
use Rattle.model.specs.declared.Refusal.{Refusal}
use Rattle.model.specs.Matrix.{cell}
use Rattle.model.specs.Policy.{Policy}
use Rattle.model.specs.Built.{built}
use Rattle.model.specs.Refusal.{Rule, checked, Told, tell, told, single, held}
use Rattle.model.specs.Rules.{whole_rules, room_rules}

-- the policy built from the matrix m
abbrev pub built_from : ℕ → ℕ → List ℕ → Policy
built_from n k m = built n k (cell k n m)

-- the bytes of its table
abbrev pub table_size : ℕ → ℕ → List ℕ → ℕ
table_size n k m = (built_from n k m).domains * k * (built_from n k m).domains

-- 1, 2, 3, 4, 10, 11, over buffers of x and y bytes
unfoldable pub build_rules : ℕ → ℕ → List ℕ → ℕ → ℕ → List Rule
build_rules n k m x y = whole_rules n k m ++ (room_rules AssignmentRoom x n ++ room_rules Room y (table_size n k m))

-- what is told: the first of the rules that applies, or the number of domains
unfoldable pub build_told : ℕ → ℕ → List ℕ → ℕ → ℕ → Told
build_told n k m x y = tell (checked (build_rules n k m x y)) ((built_from n k m).domains ∷ [])

-- what the build answers: the number of domains, or a refusal
abbrev pub Built : Type 0
Built = Result ℕ Refusal

-- the answer's number and values, case by case
abbrev pub built_told : Built → Told
built_told r = told single r

-- what the two buffers hold after the call, s and t being what they held before it
abbrev pub assignment_left : ℕ → ℕ → List ℕ → List ℕ → List ℕ → List ℕ
assignment_left n k m s t = held (checked (build_rules n k m (length s) (length t))) (built_from n k m).assignment s

abbrev pub table_left : ℕ → ℕ → List ℕ → List ℕ → List ℕ → List ℕ
table_left n k m s t = held (checked (build_rules n k m (length s) (length t))) (built_from n k m).table t

-- the promise: the answer r, and the buffers after the call
pub record Builds (n k : ℕ) (m s t : List ℕ) (r : Built) (s' t' : List ℕ) : Type 0 where
  pub told : built_told r ≡ build_told n k m (length s) (length t)
  pub assignment : s' ≡ assignment_left n k m s t
  pub table : t' ≡ table_left n k m s t
