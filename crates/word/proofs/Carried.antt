-- A word can carry every refusal of a group of rules: the numbers are those of the table, and a place is small, since it is named only once
-- the sizes are in order. Assumes nothing.
use mathlib.Core.Path.{sym, ◌∙◌}
use mathlib.Core.Bool.{Bool}
use mathlib.Core.List.{List, [], ◌∷◌}
use Prim.Native.Nat.{ℕ, ◌*◌, ◌^◌, ◌≤◌, ◌<◌}
use native.Mathlib.Omega.{arith}
use borrow.Author.Tests.{ltb-true, eqb-true, not-false}
use lib.Dec.{eqb}
use lib.ListN.{length}
use Rattle.model.specs.declared.Fault.{Fault}
use Rattle.model.specs.declared.Fault.TheVariants.{Limit, MatrixLength, MatrixCell, Unlogged, AssignmentLength, DomainNumber}
use Rattle.model.specs.declared.Fault.TheVariants.{TableLength, TableCell, OutOfRange}
use Rattle.model.specs.declared.Refusal.{Refusal}
use Rattle.model.specs.Refusal.{number_of, refusal, cell_refusal}
use Rattle.model.specs.Rules.{lowest, lowest_rule, list_rules, size_rules, matrix_rules, full_rules, whole_rules, assignment_rules, table_rules}
use Rattle.model.specs.Rules.{request_rules, pair_rules, room_rules}
use Rattle.model.proofs.Groups.{Gives, gives_group}
use Rattle.model.proofs.Places.{small}
use Rattle.model.proofs.Rules.{Sized, sizes_fine, matrix_fine, lowest_some}
use Rattle.word.specs.Word.{place_bits}
use Rattle.word.proofs.Word.{RefusalCarried}

pub carried : (fault : Fault) (place : ℕ) → 0 < number_of fault → number_of fault < 256 → place < 2 ^ place_bits → RefusalCarried (refusal fault place)
unfolding refusal
carried fault place h l m = record { given = h; byte = l; bits = m }

pub cell_carried : (fault : Fault) (k y i : ℕ) → 0 < number_of fault → number_of fault < 256 → i < 2 ^ place_bits
    → RefusalCarried (cell_refusal fault k y i)
unfolding cell_refusal
cell_carried fault k y i h l m = record { given = h; byte = l; bits = m }

pub sizes_carried : (n k d : ℕ) → Gives RefusalCarried (size_rules n k d)
unfolding size_rules
sizes_carried n k d = (
  λ _. carried Limit 0 (omega arith) (omega arith) (omega arith),
  λ _. (
    λ _. carried Limit 1 (omega arith) (omega arith) (omega arith),
    λ _. (λ _. carried Limit 2 (omega arith) (omega arith) (omega arith), λ _. tt),
  ),
)

pub request_carried : (n k u a v : ℕ) → Gives RefusalCarried (request_rules n k u a v)
unfolding request_rules
request_carried n k u a v = (
  λ _. carried OutOfRange 0 (omega arith) (omega arith) (omega arith),
  λ _. (
    λ _. carried OutOfRange 1 (omega arith) (omega arith) (omega arith),
    λ _. (λ _. carried OutOfRange 2 (omega arith) (omega arith) (omega arith), λ _. tt),
  ),
)

-- ---- lists of cells

module _ (p : ℕ → Bool) (l : List ℕ) (at : ℕ → Refusal) (short : length l ≤ 32768) (each : (i : ℕ) → i < 2 ^ place_bits → RefusalCarried (at i)) where
  lowest_carried : Gives RefusalCarried (lowest_rule p l at ∷ [])
  unfolding lowest_rule
  lowest_carried = (λ e. each (lowest p l) (omega (arith, ltb-true (lowest p l) (length l) (sym (lowest_some p l) ∙ e))), λ _. tt)

list_carried : (fault : Fault) (want : ℕ) (p : ℕ → Bool) (l : List ℕ) (at : ℕ → Refusal) → 0 < number_of fault → number_of fault < 256
    → want ≤ 32768 → ((i : ℕ) → i < 2 ^ place_bits → RefusalCarried (at i)) → Gives RefusalCarried (list_rules fault want p l at)
list_carried fault want p l at h b w each = (
  λ _. carried fault 0 h b (omega arith),
  λ e. lowest_carried p l at (omega (arith, eqb-true (length l) want (not-false (eqb (length l) want) e))) each,
)

module _ (n k d : ℕ) (s : Sized n k d) where
  pub matrix_carried : (m : List ℕ) → Gives RefusalCarried (matrix_rules n k m)
  unfolding matrix_rules
  matrix_carried m = list_carried MatrixLength (n * k * n) _ m (cell_refusal MatrixCell k n) (omega arith) (omega arith)
      (small s.entities s.rights s.entities).cells (λ i l. cell_carried MatrixCell k n i (omega arith) (omega arith) l)

  pub assignment_carried : (l : List ℕ) → Gives RefusalCarried (assignment_rules n d l)
  unfolding assignment_rules
  assignment_carried l = list_carried AssignmentLength n _ l (refusal DomainNumber) (omega arith) (omega arith) (omega (arith, s.entities))
      (λ i b. carried DomainNumber i (omega arith) (omega arith) b)

  pub table_carried : (l : List ℕ) → Gives RefusalCarried (table_rules k d l)
  unfolding table_rules
  table_carried l = list_carried TableLength (d * k * d) _ l (cell_refusal TableCell k d) (omega arith) (omega arith)
      (small s.domains s.rights s.domains).cells (λ i b. cell_carried TableCell k d i (omega arith) (omega arith) b)

pub full_carried : (n k : ℕ) (m : List ℕ) → length m ≤ 32768 → Gives RefusalCarried (full_rules n k m)
unfolding full_rules
full_carried n k m h = lowest_carried _ m (cell_refusal Unlogged k n) h (λ i l. cell_carried Unlogged k n i (omega arith) (omega arith) l)

pub whole_carried : (n k : ℕ) (m : List ℕ) → Gives RefusalCarried (whole_rules n k m)
unfolding whole_rules
whole_carried n k m = gives_group RefusalCarried (size_rules n k 0) _ (sizes_carried n k 0) (λ e.
    let s = sizes_fine n k 0 e in
    gives_group RefusalCarried (matrix_rules n k m) (full_rules n k m) (matrix_carried n k 0 s m) (λ f.
    full_carried n k m (omega (arith, (matrix_fine n k m f).long, (small s.entities s.rights s.entities).cells))))

pub room_carried : (fault : Fault) (have need : ℕ) → 0 < number_of fault → number_of fault < 256 → need ≤ 33230
    → Gives RefusalCarried (room_rules fault have need)
unfolding room_rules
room_carried fault have need h b l = (λ _. carried fault need h b (omega arith), λ _. tt)

pub pair_carried : (n u v : ℕ) → Gives RefusalCarried (pair_rules n u v)
unfolding pair_rules
pair_carried n u v = (
  λ _. carried OutOfRange 0 (omega arith) (omega arith) (omega arith),
  λ _. (λ _. carried OutOfRange 1 (omega arith) (omega arith) (omega arith), λ _. tt),
)
