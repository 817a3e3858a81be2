-- A call refuses with a reason of the table, and with no other number: the reads and the writes of the two files. No function's proof cites
-- it. Assumes nothing.
use mathlib.Core.Path.{◌≡◌}
use mathlib.Core.List.{List, ◌++◌}
use Prim.Native.Nat.{ℕ}
use lib.ListN.{length}
use Rattle.std.specs.Prelude.{Err}
use Rattle.std.proofs.Common.{rules}
use Rattle.model.specs.declared.Fault.TheVariants.{AssignmentRoom, Room, FileForm}
use Rattle.model.specs.declared.Refusal.{Refusal}
use Rattle.model.specs.Refusal.{refusal, told_refusal}
use Rattle.model.specs.Policy.{Policy}
use Rattle.model.specs.Rules.{size_rules, matrix_rules, assignment_rules, table_rules, room_rules}
use Rattle.model.proofs.Groups.{Gives, gives_group, refusal_told}
use Rattle.model.proofs.Reasons.{Listed}
use Rattle.model.proofs.Listed.{ListedRefusal, told_listed, sizes_listed, matrix_listed, assignment_listed, table_listed, room_listed}
use Rattle.layout.specs.Text.{matrix_text, policy_text}
use Rattle.writable.specs.Rules.{matrix_write_rules, policy_write_rules}
use Rattle.files.specs.Read.{MatrixRead, PolicyRead}
use Rattle.filed.specs.Files.{ReadsMatrix, ReadsPolicy, WritesMatrix, WritesPolicy}

-- ---- reading

malformed_listed : (p : ℕ) (r : Refusal) → told_refusal r ≡ told_refusal (refusal FileForm p) → Listed r.fault
unfolding refusal
malformed_listed p r t = rw (refusal_told r (refusal FileForm p) t) (search rules)

pub read_matrix_listed : (s x x' : List ℕ) (r : Refusal) → ReadsMatrix s x (Err r) x' → Listed r.fault
read_matrix_listed s x x' r (MatrixRead.formed n k m f t _) =
    told_listed (room_rules Room (length x) (length m)) _ (room_listed Room (length x) (length m) (search rules)) r t
read_matrix_listed s x x' r (MatrixRead.malformed p m t _) = malformed_listed p r t

pub read_policy_listed : (s x y x' y' : List ℕ) (r : Refusal) → ReadsPolicy s x y (Err r) x' y' → Listed r.fault
read_policy_listed s x y x' y' r (PolicyRead.formed n k P f t _ _) =
    let names = room_rules AssignmentRoom (length x) (length P.assignment) in
    let cells = room_rules Room (length y) (length P.table) in
    told_listed (names ++ cells) _ (gives_group ListedRefusal names cells
    (room_listed AssignmentRoom (length x) (length P.assignment) (search rules)) (λ _. room_listed Room (length y) (length P.table) (search rules))) r t
read_policy_listed s x y x' y' r (PolicyRead.malformed p m t _ _) = malformed_listed p r t

-- ---- writing

pub matrix_write_rules_listed : (n k : ℕ) (m : List ℕ) (room : ℕ) → Gives ListedRefusal (matrix_write_rules n k m room)
unfolding matrix_write_rules
matrix_write_rules_listed n k m room =
    let size = length (matrix_text n k m) in
    gives_group ListedRefusal (size_rules n k 0) _ (sizes_listed n k 0)
    (λ _. gives_group ListedRefusal (matrix_rules n k m) (room_rules Room room size) (matrix_listed n k m)
    (λ _. room_listed Room room size (search rules)))

pub policy_write_rules_listed : (n k : ℕ) (P : Policy) (room : ℕ) → Gives ListedRefusal (policy_write_rules n k P room)
unfolding policy_write_rules
policy_write_rules_listed n k P room =
    let d = P.domains in
    let size = length (policy_text n k P) in
    gives_group ListedRefusal (size_rules n k d) _ (sizes_listed n k d)
    (λ _. gives_group ListedRefusal (assignment_rules n d P.assignment) _ (assignment_listed n d P.assignment)
    (λ _. gives_group ListedRefusal (table_rules k d P.table) (room_rules Room room size) (table_listed k d P.table)
    (λ _. room_listed Room room size (search rules))))

pub write_matrix_listed : (n k : ℕ) (m x x' : List ℕ) (r : Refusal) → WritesMatrix n k m x (Err r) x' → Listed r.fault
write_matrix_listed n k m x x' r w = told_listed (matrix_write_rules n k m (length x)) _ (matrix_write_rules_listed n k m (length x)) r w.told

pub write_policy_listed : (n k : ℕ) (P : Policy) (x x' : List ℕ) (r : Refusal) → WritesPolicy n k P x (Err r) x' → Listed r.fault
write_policy_listed n k P x x' r w = told_listed (policy_write_rules n k P (length x)) _ (policy_write_rules_listed n k P (length x)) r w.told
