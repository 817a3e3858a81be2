-- The patterns, by computation from the definitions; and from the policies of P11 and P12, which are judged by computation too, that 0 and 1
-- can share a domain over P10's matrix and 1 and 2 can. A policy in which 0 and 2 share would answer cells 0 and 8 alike. Assumes nothing.
use mathlib.Core.Path.{◌≡◌, refl, subst}
use mathlib.Core.List.{[], ◌∷◌}
use Prim.Native.Nat.{ℕ, ◌≤◌}
use native.Mathlib.Omega.{arith}
use Rattle.std.specs.Prelude.{Ok}
use Rattle.model.specs.Below.{all, any, count, first, tab}
use Rattle.model.specs.Matrix.{cell}
use Rattle.model.specs.Alike.{rows_test, alike_test}
use Rattle.model.specs.Classes.{smallest, is_smallest, classes, class_of, member_of}
use Rattle.model.specs.Policy.{Policy, policy, domain_of, answer, Together}
use Rattle.model.specs.Built.{table_of, built}
use Rattle.model.specs.Clash.{clash_test, first_clash}
use Rattle.model.specs.Refusal.{refusal, cell_refusal}
use Rattle.model.specs.Rules.{lowest, lowest_rule, size_rules, matrix_rules, full_rules, whole_rules, assignment_rules, table_rules, room_rules}
use Rattle.build.specs.Build.{build_rules, build_told}
use Rattle.conflicts.specs.Conflict.{conflict}
use Rattle.judge.specs.declared.Verdict.TheVariants.{Enforces}
use Rattle.judge.specs.Judge.{judge_rules, verdict, judge_told, Judges}
use Rattle.judge.proofs.Exits.{judgeable}
use Rattle.claims.specs.Patterns.{gaps, patterns, PatternsMet, PatternsPrinted, GapsMerged}
use Rattle.claims.proofs.Judge.{judge_accepts}

pub patterns_met : PatternsMet
unfolding patterns all any count first tab cell rows_test alike_test smallest is_smallest classes class_of member_of domain_of answer
    table_of built clash_test first_clash
    refusal cell_refusal lowest lowest_rule size_rules matrix_rules full_rules whole_rules assignment_rules table_rules room_rules build_rules build_told
    judge_rules conflict verdict judge_told
patterns_met = (
  (refl, refl),
  (
    (refl, refl),
    (
      (refl, refl),
      (
        (refl, refl),
        (
          (refl, refl),
          (
            (refl, refl),
            (
              (refl, refl),
              (
                (refl, refl),
                (
                  (refl, refl),
                  (
                    refl,
                    (refl, (refl, tt)),
                  ),
                ),
              ),
            ),
          ),
        ),
      ),
    ),
  ),
)

pub patterns_printed : PatternsPrinted
unfolding patterns
patterns_printed = refl

-- ---- gaps

-- what the judge accepts puts together what shares a domain in it
joins : (limit : ℕ) (P : Policy) (u v : ℕ) → P.domains ≤ limit → Judges 3 1 gaps P (Ok (Enforces P.domains)) → domain_of P u ≡ domain_of P v
    → Together limit 3 1 (cell 1 3 gaps) u v
joins limit P u v few j s =
    let a = (judge_accepts 3 1 gaps P (Ok (Enforces P.domains)) j P.domains).0 refl in
    record { policy = P; few = few; valid = (judgeable 3 1 gaps P a.0).1.valid; enforces = a.1; shared = s }

apart : (limit : ℕ) → ¬ Together limit 3 1 (cell 1 3 gaps) 0 2
unfolding cell answer
apart limit t =
    let P = t.policy in
    t.enforces.denies 2 0 2 (omega arith) (omega arith) (omega arith) refl
    (subst (λ (p : ℕ). cell 1 P.domains P.table p 0 p ≡ 1) t.shared (t.enforces.grants 0 0 0 (omega arith) (omega arith) (omega arith) refl))

pub gaps_merged : GapsMerged
unfolding all any count first tab cell domain_of answer clash_test first_clash lowest lowest_rule size_rules matrix_rules assignment_rules
    table_rules judge_rules conflict
    verdict judge_told
gaps_merged limit h = (
  joins limit (policy 2 (0 ∷ 0 ∷ 1 ∷ []) (1 ∷ 0 ∷ 0 ∷ 0 ∷ [])) 0 1 h refl refl,
  joins limit (policy 2 (0 ∷ 1 ∷ 1 ∷ []) (1 ∷ 0 ∷ 0 ∷ 0 ∷ [])) 1 2 h refl refl,
  apart limit,
)
