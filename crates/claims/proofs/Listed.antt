-- A call refuses with a reason of the table, and with no other number: ask, alike, build, judge. No function's proof cites it. Assumes nothing.
use mathlib.Core.List.{List}
use Prim.Native.Nat.{ℕ}
use lib.ListN.{length}
use Rattle.std.specs.Prelude.{Err}
use Rattle.std.proofs.Common.{rules}
use Rattle.model.specs.declared.Fault.TheVariants.{AssignmentRoom, Room}
use Rattle.model.specs.declared.Refusal.{Refusal}
use Rattle.model.specs.Refusal.{refusal, cell_refusal}
use Rattle.model.specs.Policy.{Policy}
use Rattle.model.specs.Rules.{size_rules, matrix_rules, whole_rules, assignment_rules, table_rules, request_rules, pair_rules, room_rules}
use Rattle.model.proofs.Groups.{Gives, gives_group}
use Rattle.model.proofs.Reasons.{Listed}
use Rattle.model.proofs.Listed.{ListedRefusal, told_listed, sizes_listed, matrix_listed, whole_listed, assignment_listed, table_listed}
use Rattle.model.proofs.Listed.{request_listed, pair_listed, room_listed}
use Rattle.ask.specs.Ask.{look_rules, ask_rules, ask_told, Answers}
use Rattle.alike.specs.Compare.{alike_rules, alike_told, Compares}
use Rattle.build.specs.Build.{table_size, build_rules, build_told, Builds}
use Rattle.judge.specs.Judge.{judge_rules, judge_told, Judges}

module _ (n k : ℕ) where
  look_rules_listed : (u a v : ℕ) (P : Policy) → Gives ListedRefusal (look_rules k u a v P)
  unfolding look_rules refusal cell_refusal
  look_rules_listed u a v P = search rules

  ask_rules_listed : (u a v : ℕ) (P : Policy) → Gives ListedRefusal (ask_rules n k u a v P)
  unfolding ask_rules refusal
  ask_rules_listed u a v P =
      gives_group ListedRefusal (size_rules n k P.domains) _ (sizes_listed n k P.domains)
      (λ _. (
        search rules,
        λ _. (
          search rules,
          λ _.
              gives_group ListedRefusal (request_rules n k u a v) (look_rules k u a v P) (request_listed n k u a v) (λ _. look_rules_listed u a v P),
        ),
      ))

  pub ask_listed : (u a v : ℕ) (P : Policy) (r : Refusal) → Answers n k u a v P (Err r) → Listed r.fault
  unfolding ask_told
  ask_listed u a v P r t = told_listed (ask_rules n k u a v P) _ (ask_rules_listed u a v P) r t

  pub alike_listed : (u v : ℕ) (m : List ℕ) (r : Refusal) → Compares n k u v m (Err r) → Listed r.fault
  unfolding alike_told alike_rules
  alike_listed u v m r t =
      told_listed (alike_rules n k u v m) _ (gives_group ListedRefusal (whole_rules n k m) (pair_rules n u v) (whole_listed n k m)
      (λ _. pair_listed n u v)) r t

  pub build_listed : (m s t s' t' : List ℕ) (r : Refusal) → Builds n k m s t (Err r) s' t' → Listed r.fault
  unfolding build_told build_rules
  build_listed m s t s' t' r b =
      told_listed (build_rules n k m (length s) (length t)) _ (gives_group ListedRefusal (whole_rules n k m) _ (whole_listed n k m)
      (λ _. gives_group ListedRefusal (room_rules AssignmentRoom (length s) n) (room_rules Room (length t) (table_size n k m))
      (room_listed AssignmentRoom (length s) n (search rules)) (λ _. room_listed Room (length t) (table_size n k m) (search rules)))) r b.told

  pub judge_listed : (m : List ℕ) (P : Policy) (r : Refusal) → Judges n k m P (Err r) → Listed r.fault
  unfolding judge_told judge_rules
  judge_listed m P r t =
      let policy = gives_group ListedRefusal (assignment_rules n P.domains P.assignment) (table_rules k P.domains P.table)
      (assignment_listed n P.domains P.assignment) (λ _. table_listed k P.domains P.table) in
      told_listed (judge_rules n k m P) _ (gives_group ListedRefusal (size_rules n k P.domains) _ (sizes_listed n k P.domains)
      (λ _. gives_group ListedRefusal (matrix_rules n k m) _ (matrix_listed n k m) (λ _. policy))) r t
