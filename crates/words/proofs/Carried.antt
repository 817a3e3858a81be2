-- A word can carry every refusal of the calls, since it can carry those of each group. Assumes nothing.
use mathlib.Core.List.{List}
use Prim.Native.Nat.{ℕ, ◌≤◌, ◌<◌}
use native.Mathlib.Omega.{arith}
use borrow.Author.Tests.{leb-false}
use Rattle.model.specs.declared.Fault.TheVariants.{AssignmentLength, DomainNumber, TableLength, TableCell, AssignmentRoom, Room}
use Rattle.model.specs.Matrix.{cell_at, cell}
use Rattle.model.specs.Policy.{Policy, domain_of}
use Rattle.model.specs.Rules.{size_rules, matrix_rules, whole_rules, assignment_rules, table_rules}
use Rattle.model.specs.Rules.{request_rules, pair_rules, room_rules}
use Rattle.model.proofs.Groups.{Gives, gives_group}
use Rattle.model.proofs.Places.{small, steps}
use Rattle.model.proofs.Built.{built_few}
use Rattle.model.proofs.Rules.{Sized, sizes_fine, request_fine, whole_fine}
use Rattle.ask.specs.Ask.{look_rules, ask_rules}
use Rattle.alike.specs.Compare.{alike_rules}
use Rattle.build.specs.Build.{built_from, table_size, build_rules}
use Rattle.judge.specs.Judge.{judge_rules}
use Rattle.word.proofs.Word.{RefusalCarried}
use Rattle.word.proofs.Carried.{carried, cell_carried, sizes_carried, request_carried, pair_carried, whole_carried, matrix_carried}
use Rattle.word.proofs.Carried.{assignment_carried, table_carried, room_carried}

module _ (n k u a v : ℕ) (P : Policy) where
  look_carried : Sized n k P.domains → (u < n) × (a < k) × (v < n) → Gives RefusalCarried (look_rules k u a v P)
  unfolding look_rules
  look_carried s r = (
    λ _. carried DomainNumber u (omega arith) (omega arith) (omega (arith, r.0)),
    λ p. (
      λ _. carried DomainNumber v (omega arith) (omega arith) (omega (arith, r.2)),
      λ q. (
        λ _.
            let w = steps s.domains s.rights s.domains (leb-false d (domain_of P u) p) r.1 (leb-false d (domain_of P v) q) in
            cell_carried TableCell k d (cell_at k d (domain_of P u) a (domain_of P v)) (omega arith) (omega arith) (omega (arith, w.place)),
        λ _. tt,
      ),
    ),
  )
    where
      d : ℕ
      d = P.domains

  pub ask_carried : Gives RefusalCarried (ask_rules n k u a v P)
  unfolding ask_rules
  ask_carried = gives_group RefusalCarried (size_rules n k P.domains) _ (sizes_carried n k P.domains) (λ e. (
    λ _. carried AssignmentLength 0 (omega arith) (omega arith) (omega arith),
    λ _. (
      λ _. carried TableLength 0 (omega arith) (omega arith) (omega arith),
      λ _. gives_group RefusalCarried (request_rules n k u a v) (look_rules k u a v P) (request_carried n k u a v)
          (λ f. look_carried (sizes_fine n k P.domains e) (request_fine n k u a v f)),
    ),
  ))

pub alike_carried : (n k u v : ℕ) (m : List ℕ) → Gives RefusalCarried (alike_rules n k u v m)
unfolding alike_rules
alike_carried n k u v m = gives_group RefusalCarried (whole_rules n k m) (pair_rules n u v) (whole_carried n k m) (λ _. pair_carried n u v)

pub build_carried : (n k : ℕ) (m : List ℕ) (x y : ℕ) → Gives RefusalCarried (build_rules n k m x y)
unfolding build_rules
build_carried n k m x y = gives_group RefusalCarried (whole_rules n k m) _ (whole_carried n k m) (λ e.
    let s = (whole_fine n k m e).laid in
    let d : (built_from n k m).domains ≤ 64 = omega (arith, built_few n k (cell k n m), s.entities) in
    gives_group RefusalCarried (room_rules AssignmentRoom x n) (room_rules Room y (table_size n k m))
    (room_carried AssignmentRoom x n (omega arith) (omega arith) (omega (arith, s.entities)))
    (λ _. room_carried Room y (table_size n k m) (omega arith) (omega arith) (omega (arith, (small d s.rights d).cells))))

pub judge_carried : (n k : ℕ) (m : List ℕ) (P : Policy) → Gives RefusalCarried (judge_rules n k m P)
unfolding judge_rules
judge_carried n k m P = gives_group RefusalCarried (size_rules n k P.domains) _ (sizes_carried n k P.domains) (λ e.
    let s = sizes_fine n k P.domains e in
    gives_group RefusalCarried (matrix_rules n k m) _ (matrix_carried n k P.domains s m) (λ _.
    gives_group RefusalCarried (assignment_rules n P.domains P.assignment) (table_rules k P.domains P.table)
    (assignment_carried n k P.domains s P.assignment) (λ _. table_carried n k P.domains s P.table)))
