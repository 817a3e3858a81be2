-- What is claimed of the two files, over any answers and buffers that meet the promises of the four calls (01, "The two files").
-- Assumes nothing.
use Rattle.std.specs.Prelude.{◌≡◌, ◌↔◌, List, ◌∷◌, ◌++◌, ℕ, ◌*◌, ◌≤◌, ◌<◌, length, take, drop, Ok, Err}
use Rattle.model.specs.declared.Fault.TheVariants.{FileForm}
use Rattle.model.specs.declared.Refusal.{Refusal}
use Rattle.model.specs.Policy.{Policy, written}
use Rattle.model.specs.Refusal.{Rule, refusal}
use Rattle.layout.specs.Text.{matrix_text, policy_text}
use Rattle.layout.specs.Files.{MatrixFile, PolicyFile, MatrixFormed, PolicyFormed, Malformed}
use Rattle.writable.specs.Rules.{matrix_write_rules, policy_write_rules}
use Rattle.files.specs.Read.{read_matrix_told, read_policy_told, MatrixRead, PolicyRead, ReadMatrix, ReadPolicy, of_matrix, of_policy}
use Rattle.files.specs.Write.{wrote_told, Written, Wrote}

-- the promises of the four calls: s is the file that is read, r the answer, and x' and y' are what the buffers x and y become
abbrev pub ReadsMatrix : List ℕ → List ℕ → ReadMatrix → List ℕ → Type 0
ReadsMatrix s x r x' = MatrixRead s x (read_matrix_told r) x'

abbrev pub ReadsPolicy : List ℕ → List ℕ → List ℕ → ReadPolicy → List ℕ → List ℕ → Type 0
ReadsPolicy s x y r x' y' = PolicyRead s x y (read_policy_told r) x' y'

abbrev pub WritesMatrix : ℕ → ℕ → List ℕ → List ℕ → Wrote → List ℕ → Type 0
WritesMatrix n k m x r x' = Written (matrix_write_rules n k m (length x)) (matrix_text n k m) x (wrote_told r) x'

abbrev pub WritesPolicy : ℕ → ℕ → Policy → List ℕ → Wrote → List ℕ → Type 0
WritesPolicy n k P x r x' = Written (policy_write_rules n k P (length x)) (policy_text n k P) x (wrote_told r) x'

-- ---- reading

-- demand 2: s is the file of the matrix that is told and filled, or of the policy, and later bytes stay
abbrev pub MatrixFilled : Type 0
MatrixFilled = (n k : ℕ) (s x x' : List ℕ) → ReadsMatrix s x (Ok (of_matrix n k)) x'
    → MatrixFile n k (take (n * k * n) x') s × (drop (n * k * n) x' ≡ drop (n * k * n) x)

abbrev pub PolicyFilled : Type 0
PolicyFilled = (n k d : ℕ) (s x y x' y' : List ℕ) → ReadsPolicy s x y (Ok (of_policy n k d)) x' y'
    → PolicyFile n k (written n k d x' y') s × (drop n x' ≡ drop n x) × (drop (d * k * d) y' ≡ drop (d * k * d) y)

-- demand 1: where a read refuses, every buffer holds what it held
abbrev pub ReadKeeps : Type 0
ReadKeeps = (r : Refusal) (s x y x' y' : List ℕ)
    → (ReadsMatrix s x (Err r) x' → x' ≡ x) × (ReadsPolicy s x y (Err r) x' y' → (x' ≡ x) × (y' ≡ y))

-- demand 2: and it refuses no well-formed file for which there is room
abbrev pub ReadServes : Type 0
ReadServes = (n k : ℕ) (s x y x' y' : List ℕ)
    → ((m : List ℕ) (r : ReadMatrix) → MatrixFile n k m s → length m ≤ length x → ReadsMatrix s x r x' → r ≡ Ok (of_matrix n k))
    × ((P : Policy) (r : ReadPolicy) → PolicyFile n k P s → length P.assignment ≤ length x → length P.table ≤ length y
    → ReadsPolicy s x y r x' y' → r ≡ Ok (of_policy n k P.domains))

-- the place: a file that is not well formed is refused with 12 and its place
abbrev pub Placed : Type 0
Placed = (s x y x' y' : List ℕ) (p : ℕ)
    → (Malformed MatrixFormed s p → (r : ReadMatrix) → ReadsMatrix s x r x' → r ≡ Err (refusal FileForm p))
    × (Malformed PolicyFormed s p → (r : ReadPolicy) → ReadsPolicy s x y r x' y' → r ≡ Err (refusal FileForm p))

-- a well-formed file that is cut short has its length as its place, and one with bytes behind its end the length that it had
abbrev pub Cut : Type 0
Cut = (s : List ℕ) (p : ℕ) → p < length s
    → (MatrixFormed s → Malformed MatrixFormed (take p s) p) × (PolicyFormed s → Malformed PolicyFormed (take p s) p)

abbrev pub Behind : Type 0
Behind = (s t : List ℕ) → 0 < length t
    → (MatrixFormed s → Malformed MatrixFormed (s ++ t) (length s)) × (PolicyFormed s → Malformed PolicyFormed (s ++ t) (length s))

-- a file that begins with MX65 has place 3, and one that begins with PD03100 has place 6
abbrev pub Examples : Type 0
Examples = (t : List ℕ) → Malformed MatrixFormed (77 ∷ 88 ∷ 54 ∷ 53 ∷ t) 3 × Malformed PolicyFormed (80 ∷ 68 ∷ 48 ∷ 51 ∷ 49 ∷ 48 ∷ 48 ∷ t) 6

-- the longest matrix file has 33,097 bytes and the longest policy file 33,230: a number e is no less than any file's length exactly if it
-- is no less than that
abbrev pub LongestMatrix : Type 0
LongestMatrix = (e : ℕ) → ((s : List ℕ) → MatrixFormed s → length s ≤ e) ↔ (33097 ≤ e)

abbrev pub LongestPolicy : Type 0
LongestPolicy = (e : ℕ) → ((s : List ℕ) → PolicyFormed s → length s ≤ e) ↔ (33230 ≤ e)

-- ---- writing

-- demand 2: what is written is the file, its length is told, and later bytes stay
abbrev pub FileWritten : Type 0
FileWritten = (n k size : ℕ) (x x' : List ℕ)
    → ((m : List ℕ) → WritesMatrix n k m x (Ok size) x' → MatrixFile n k m (take size x') × (drop size x' ≡ drop size x))
    × ((P : Policy) → WritesPolicy n k P x (Ok size) x' → PolicyFile n k P (take size x') × (drop size x' ≡ drop size x))

-- demand 1: where a write refuses, the buffer holds what it held
abbrev pub WriteKeeps : Type 0
WriteKeeps = (n k : ℕ) (x x' : List ℕ) (r : Refusal)
    → ((m : List ℕ) → WritesMatrix n k m x (Err r) x' → x' ≡ x) × ((P : Policy) → WritesPolicy n k P x (Err r) x' → x' ≡ x)

-- demand 2: and it refuses no matrix and no policy within the limits for whose file there is room
abbrev pub WriteServes : Type 0
WriteServes = (n k : ℕ) (s x x' : List ℕ) (r : Wrote) → length s ≤ length x
    → ((m : List ℕ) → MatrixFile n k m s → WritesMatrix n k m x r x' → r ≡ Ok (length s))
    × ((P : Policy) → PolicyFile n k P s → WritesPolicy n k P x r x' → r ≡ Ok (length s))

-- ---- there and back

-- demand 2: reading what was written gives back the same numbers and bytes
abbrev pub WrittenRead : Type 0
WrittenRead = (n k size : ℕ) (f f' x y x' y' : List ℕ)
    → ((m : List ℕ) (r : ReadMatrix) → WritesMatrix n k m f (Ok size) f' → length m ≤ length x → ReadsMatrix (take size f') x r x'
    → (r ≡ Ok (of_matrix n k)) × (take (length m) x' ≡ m))
    × ((P : Policy) (r : ReadPolicy) → WritesPolicy n k P f (Ok size) f' → length P.assignment ≤ length x → length P.table ≤ length y
    → ReadsPolicy (take size f') x y r x' y' → (r ≡ Ok (of_policy n k P.domains)) × (written n k P.domains x' y' ≡ P))

-- and writing what was read gives back the same file
abbrev pub ReadWritten : Type 0
ReadWritten = (n k d : ℕ) (s x y x' y' f f' : List ℕ) (r : Wrote) → length s ≤ length f
    → (ReadsMatrix s x (Ok (of_matrix n k)) x' → WritesMatrix n k (take (n * k * n) x') f r f' → (r ≡ Ok (length s)) × (take (length s) f' ≡ s))
    × (ReadsPolicy s x y (Ok (of_policy n k d)) x' y' → WritesPolicy n k (written n k d x' y') f r f' → (r ≡ Ok (length s)) × (take (length s) f' ≡ s))

-- ---- two answers that meet a promise are equal, and so are the buffers

abbrev pub ReadMatrixUnique : Type 0
ReadMatrixUnique = (s x x' x'' : List ℕ) (r q : ReadMatrix) → ReadsMatrix s x r x' → ReadsMatrix s x q x'' → (r ≡ q) × (x' ≡ x'')

abbrev pub ReadPolicyUnique : Type 0
ReadPolicyUnique = (s x y x' y' x'' y'' : List ℕ) (r q : ReadPolicy) → ReadsPolicy s x y r x' y' → ReadsPolicy s x y q x'' y''
    → (r ≡ q) × (x' ≡ x'') × (y' ≡ y'')

-- of a write, whatever its rules and its text are
abbrev pub WriteUnique : Type 0
WriteUnique = (rules : List Rule) (text x x' x'' : List ℕ) (r q : Wrote) → Written rules text x (wrote_told r) x' → Written rules text x (wrote_told q) x''
    → (r ≡ q) × (x' ≡ x'')
