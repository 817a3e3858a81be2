-- What the four calls on files tell has room in their words: no file is longer than 33,230 bytes, so no length and no place is greater, and
-- the numbers are within the limits. And what is told is one thing, so the word is one. Assumes nothing.
use mathlib.Core.Path.{sym, ap, ◌∙◌, subst}
use mathlib.Core.List.{List, [], ◌∷◌, ◌++◌}
use Prim.Native.Nat.{ℕ, ◌≤◌}
use native.Mathlib.Omega.{arith}
use lib.ListN.{length}
use Rattle.model.specs.declared.Fault.TheVariants.{AssignmentRoom, Room, FileForm}
use Rattle.model.specs.Policy.{Policy}
use Rattle.model.specs.Refusal.{refusal, Told, told_refusal}
use Rattle.model.specs.Rules.{size_rules, matrix_rules, assignment_rules, table_rules, room_rules}
use Rattle.model.proofs.Groups.{gives_group, groups_fine}
use Rattle.model.proofs.Places.{small}
use Rattle.model.proofs.Rules.{Sized, sizes_fine}
use Rattle.layout.specs.Text.{matrix_text, policy_text}
use Rattle.layout.specs.Files.{MatrixFormed, PolicyFormed}
use Rattle.layout.proofs.Contents.{matrix_length, policy_length, short, matrix_short, policy_short}
use Rattle.layout.proofs.Faults.{place_short}
use Rattle.writable.specs.Rules.{matrix_write_rules, policy_write_rules}
use Rattle.files.specs.Read.{MatrixRead, PolicyRead}
use Rattle.files.specs.Write.{Written}
use Rattle.filed.proofs.Read.{matrix_read_one, policy_read_one}
use Rattle.filed.proofs.Write.{written_one}
use Rattle.word.specs.Word.{word}
use Rattle.word.specs.Held.{none, more, Held}
use Rattle.filewords.specs.Files.{ReadMatrixKept, ReadPolicyKept, WriteMatrixKept, WritePolicyKept, MatrixWordUnique, PolicyWordUnique, WrittenWordUnique}
use Rattle.word.proofs.Word.{word_kept, word_low, told_held, RefusalCarried}
use Rattle.word.proofs.Carried.{carried, sizes_carried, matrix_carried, assignment_carried, table_carried, room_carried}

malformed_held : (ws : List ℕ) (p : ℕ) → p ≤ 33230 → Held ws (told_refusal (refusal FileForm p))
malformed_held ws p h = carried FileForm p (omega arith) (omega arith) (omega arith)

-- ---- reading

pub matrix_read_held : (s x x' : List ℕ) (t : Told) → MatrixRead s x t x' → Held (8 ∷ 8 ∷ []) t
matrix_read_held s x x' t (MatrixRead.formed n k m f e _) =
    let l = f.matrix.laid in
    subst (Held (8 ∷ 8 ∷ [])) (sym e) (told_held (8 ∷ 8 ∷ []) (room_rules Room (length x) (length m)) (n ∷ k ∷ [])
    (room_carried Room (length x) (length m) (omega arith) (omega arith) (omega (arith, l.size, (small l.entities l.rights l.entities).cells)))
    (λ _. more (omega (arith, l.entities)) (more (omega (arith, l.rights)) none)))
matrix_read_held s x x' t (MatrixRead.malformed p m e _) =
    subst (Held (8 ∷ 8 ∷ [])) (sym e) (malformed_held (8 ∷ 8 ∷ []) p
    (omega (arith, place_short MatrixFormed 33097 (λ l f. matrix_short f.3) m.place)))

pub policy_read_held : (s x y x' y' : List ℕ) (t : Told) → PolicyRead s x y t x' y' → Held (8 ∷ 8 ∷ 8 ∷ []) t
policy_read_held s x y x' y' t (PolicyRead.formed n k P f e _ _) =
    let names = room_rules AssignmentRoom (length x) (length P.assignment) in
    let cells = room_rules Room (length y) (length P.table) in
    subst (Held (8 ∷ 8 ∷ 8 ∷ [])) (sym e) (told_held (8 ∷ 8 ∷ 8 ∷ []) (names ++ cells) (n ∷ k ∷ P.domains ∷ [])
    (gives_group RefusalCarried names cells
    (room_carried AssignmentRoom (length x) (length P.assignment) (omega arith) (omega arith) (omega (arith, f.within.valid.entities, f.within.entities)))
    (λ _. room_carried Room (length y) (length P.table) (omega arith) (omega arith)
    (omega (arith, f.within.valid.size, (small f.within.few f.within.rights f.within.few).cells))))
    (λ _. more (omega (arith, f.within.entities)) (more (omega (arith, f.within.rights)) (more (omega (arith, f.within.few)) none))))
policy_read_held s x y x' y' t (PolicyRead.malformed p m e _ _) =
    subst (Held (8 ∷ 8 ∷ 8 ∷ [])) (sym e) (malformed_held (8 ∷ 8 ∷ 8 ∷ []) p
    (place_short PolicyFormed 33230 (λ l f. policy_short f.3) m.place))

-- ---- writing

matrix_room_lem : (n k : ℕ) (m : List ℕ) → Sized n k 0 → length (matrix_text n k m) ≤ 33097
matrix_room_lem n k m s = omega (arith, matrix_length n k m, (short s.entities s.rights).rows)

policy_room_lem : (n k : ℕ) (P : Policy) → Sized n k P.domains → length (policy_text n k P) ≤ 33230
policy_room_lem n k P s = omega (arith, policy_length n k P, (short s.domains s.rights).rows, s.entities)

pub matrix_written_held : (n k : ℕ) (m x x' : List ℕ) (t : Told) → Written (matrix_write_rules n k m (length x)) (matrix_text n k m) x t x' → Held (24 ∷ []) t
unfolding matrix_write_rules
matrix_written_held n k m x x' t w =
    let size = length (matrix_text n k m) in
    let rest = matrix_rules n k m ++ room_rules Room (length x) size in
    subst (Held (24 ∷ [])) (sym w.told) (told_held (24 ∷ []) (size_rules n k 0 ++ rest) (size ∷ [])
    (gives_group RefusalCarried (size_rules n k 0) rest (sizes_carried n k 0) (λ e.
    let s = sizes_fine n k 0 e in
    gives_group RefusalCarried (matrix_rules n k m) (room_rules Room (length x) size) (matrix_carried n k 0 s m)
    (λ _. room_carried Room (length x) size (omega arith) (omega arith) (omega (arith, matrix_room_lem n k m s)))))
    (λ e. more (omega (arith, matrix_room_lem n k m (sizes_fine n k 0 (groups_fine (size_rules n k 0) rest e).0))) none))

pub policy_written_held : (n k : ℕ) (P : Policy) (x x' : List ℕ) (t : Told) → Written (policy_write_rules n k P (length x)) (policy_text n k P) x t x'
    → Held (24 ∷ []) t
unfolding policy_write_rules
policy_written_held n k P x x' t w =
    let d = P.domains in
    let size = length (policy_text n k P) in
    let cells = table_rules k d P.table ++ room_rules Room (length x) size in
    let rest = assignment_rules n d P.assignment ++ cells in
    subst (Held (24 ∷ [])) (sym w.told) (told_held (24 ∷ []) (size_rules n k d ++ rest) (size ∷ [])
    (gives_group RefusalCarried (size_rules n k d) rest (sizes_carried n k d) (λ e.
    let s = sizes_fine n k d e in
    gives_group RefusalCarried (assignment_rules n d P.assignment) cells (assignment_carried n k d s P.assignment) (λ _.
    gives_group RefusalCarried (table_rules k d P.table) (room_rules Room (length x) size) (table_carried n k d s P.table)
    (λ _. room_carried Room (length x) size (omega arith) (omega arith) (policy_room_lem n k P s)))))
    (λ e. more (omega (arith, policy_room_lem n k P (sizes_fine n k d (groups_fine (size_rules n k d) rest e).0))) none))

-- ---- so the words lose nothing

pub read_matrix_kept : ReadMatrixKept
read_matrix_kept s x x' t r = let h = matrix_read_held s x x' t r in (word_kept (8 ∷ 8 ∷ []) t h, word_low (8 ∷ 8 ∷ []) (omega arith) t h)

pub read_policy_kept : ReadPolicyKept
read_policy_kept s x y x' y' t r = let h = policy_read_held s x y x' y' t r in (word_kept (8 ∷ 8 ∷ 8 ∷ []) t h, word_low (8 ∷ 8 ∷ 8 ∷ []) (omega arith) t h)

pub write_matrix_kept : WriteMatrixKept
write_matrix_kept n k m x x' t w = let h = matrix_written_held n k m x x' t w in (word_kept (24 ∷ []) t h, word_low (24 ∷ []) (omega arith) t h)

pub write_policy_kept : WritePolicyKept
write_policy_kept n k P x x' t w = let h = policy_written_held n k P x x' t w in (word_kept (24 ∷ []) t h, word_low (24 ∷ []) (omega arith) t h)

-- ---- and a promise has one word

pub matrix_word_unique : MatrixWordUnique
matrix_word_unique s x x' x'' w v (t, e, b) (a, q, c) =
    let (o, l) = matrix_read_one s x x' x'' t a b c in
    (e ∙ ap (word (8 ∷ 8 ∷ [])) o ∙ sym q, l)

pub policy_word_unique : PolicyWordUnique
policy_word_unique s x y x' y' x'' y'' w v (t, e, b) (a, q, c) =
    let (o, l, m) = policy_read_one s x y x' y' x'' y'' t a b c in
    (e ∙ ap (word (8 ∷ 8 ∷ 8 ∷ [])) o ∙ sym q, l, m)

pub written_word_unique : WrittenWordUnique
written_word_unique rules text x x' x'' w v (t, e, b) (a, q, c) = let (o, l) = written_one b c in (e ∙ ap (word (24 ∷ [])) o ∙ sym q, l)
