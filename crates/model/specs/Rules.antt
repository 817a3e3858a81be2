-- The rows of the table of refusals (01, "Numbers of refusal"), in the groups that the calls join in their own orders. Assumes nothing.
use Rattle.std.specs.Prelude.{Bool, not, ◌||◌, List, [], ◌∷◌, ◌++◌, ℕ, ◌*◌, eqb, leb, ltb, length, get_or}
use Rattle.model.specs.declared.Fault.{Fault}
use Rattle.model.specs.declared.Fault.TheVariants.{Limit, MatrixLength, MatrixCell, Unlogged, AssignmentLength, DomainNumber}
use Rattle.model.specs.declared.Fault.TheVariants.{TableLength, TableCell, OutOfRange}
use Rattle.model.specs.declared.Refusal.{Refusal}
use Rattle.model.specs.Below.{any, first}
use Rattle.model.specs.Refusal.{Rule, rule, refusal, cell_refusal}

-- the lowest place of a list whose element passes, or the length
unfoldable pub lowest : (ℕ → Bool) → List ℕ → ℕ
lowest p l = first (length l) (λ i. p (get_or l i 0))

-- some element passes: the refusal of the lowest such place
unfoldable pub lowest_rule : (ℕ → Bool) → List ℕ → (ℕ → Refusal) → Rule
lowest_rule p l at = rule (any (length l) (λ i. p (get_or l i 0))) (at (lowest p l))

-- a length that is not what it must be
abbrev pub length_rule : Fault → ℕ → ℕ → Rule
length_rule fault have want = rule (not (eqb have want)) (refusal fault 0)

-- a list of the wrong length, or one with an element that passes
abbrev pub list_rules : Fault → ℕ → (ℕ → Bool) → List ℕ → (ℕ → Refusal) → List Rule
list_rules fault want p l at = length_rule fault (length l) want ∷ lowest_rule p l at ∷ []

-- 1: n above 64; k 0 or above 8; d above 64
unfoldable pub size_rules : ℕ → ℕ → ℕ → List Rule
size_rules n k d = rule (ltb 64 n) (refusal Limit 0) ∷ rule (eqb k 0 || ltb 8 k) (refusal Limit 1) ∷ rule (ltb 64 d) (refusal Limit 2) ∷ []

-- 2: the matrix's length; 3: a cell above 2
unfoldable pub matrix_rules : ℕ → ℕ → List ℕ → List Rule
matrix_rules n k m = list_rules MatrixLength (n * k * n) (ltb 2) m (cell_refusal MatrixCell k n)

-- 4: an unlogged cell where a full matrix is needed
unfoldable pub full_rules : ℕ → ℕ → List ℕ → List Rule
full_rules n k m = lowest_rule (eqb 2) m (cell_refusal Unlogged k n) ∷ []

-- 1 to 4: a full matrix within the limits
unfoldable pub whole_rules : ℕ → ℕ → List ℕ → List Rule
whole_rules n k m = size_rules n k 0 ++ (matrix_rules n k m ++ full_rules n k m)

-- 5: the assignment's length; 6: a domain number not below d
unfoldable pub assignment_rules : ℕ → ℕ → List ℕ → List Rule
assignment_rules n d s = list_rules AssignmentLength n (leb d) s (refusal DomainNumber)

-- 7: the table's length; 8: a cell above 1
unfoldable pub table_rules : ℕ → ℕ → List ℕ → List Rule
table_rules k d t = list_rules TableLength (d * k * d) (ltb 1) t (cell_refusal TableCell k d)

-- 9: asked number i, which is x, is not below b
abbrev pub range_rule : ℕ → ℕ → ℕ → Rule
range_rule i x b = rule (leb b x) (refusal OutOfRange i)

-- 9 for a request: sender, right, receiver
unfoldable pub request_rules : ℕ → ℕ → ℕ → ℕ → ℕ → List Rule
request_rules n k u a v = range_rule 0 u n ∷ range_rule 1 a k ∷ range_rule 2 v n ∷ []

-- 9 for two entities
unfoldable pub pair_rules : ℕ → ℕ → ℕ → List Rule
pair_rules n u v = range_rule 0 u n ∷ range_rule 1 v n ∷ []

-- 10 and 11: a buffer too short, with the bytes needed
unfoldable pub room_rules : Fault → ℕ → ℕ → List Rule
room_rules fault have need = rule (ltb have need) (refusal fault need) ∷ []
