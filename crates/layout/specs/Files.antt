-- Which files are well formed, and the place of refusal 12 (01, "The two files"). Assumes nothing.
use Rattle.std.specs.Prelude.{◌≡◌, List, ◌++◌, ℕ, ◌≤◌, length, take}
use Rattle.model.specs.Matrix.{Holds}
use Rattle.model.specs.Policy.{Policy, Within}
use Rattle.layout.specs.Text.{matrix_text, policy_text}

-- s is the file of the matrix m, which is within the limits
pub record MatrixFile (n k : ℕ) (m s : List ℕ) : Type 0 where
  pub matrix : Holds n k 3 m
  pub text : s ≡ matrix_text n k m

-- s is the file of the policy P, which is within the limits
pub record PolicyFile (n k : ℕ) (P : Policy) (s : List ℕ) : Type 0 where
  pub within : Within n k P
  pub text : s ≡ policy_text n k P

-- a well-formed file is that of some matrix, or of some policy
abbrev pub MatrixFormed : List ℕ → Type 0
MatrixFormed s = (n : ℕ) × (k : ℕ) × (m : List ℕ) × MatrixFile n k m s

abbrev pub PolicyFormed : List ℕ → Type 0
PolicyFormed s = (n : ℕ) × (k : ℕ) × (P : Policy) × PolicyFile n k P s

-- some well-formed file begins with the bytes b
abbrev pub Begins : (List ℕ → Type 0) → List ℕ → Type 0
Begins Formed b = (rest : List ℕ) × Formed (b ++ rest)

-- p is the number of leading bytes that s has in common with some well-formed file, at the most
pub record Place (Formed : List ℕ → Type 0) (s : List ℕ) (p : ℕ) : Type 0 where
  pub within : p ≤ length s
  pub common : Begins Formed (take p s)
  pub most : (q : ℕ) → q ≤ length s → Begins Formed (take q s) → q ≤ p

-- s is not well formed, and p is its place
pub record Malformed (Formed : List ℕ → Type 0) (s : List ℕ) (p : ℕ) : Type 0 where
  pub not : ¬ Formed s
  pub place : Place Formed s p
