-- What the judge answers (01, "The calls" and "Numbers of refusal"). Assumes nothing.
use Rattle.std.specs.Prelude.{◌≡◌, cond, List, [], ◌∷◌, ◌++◌, ℕ, ◌*◌, ltb, get_or, Result}
use Rattle.model.specs.declared.Refusal.{Refusal}
use Rattle.model.specs.Policy.{Policy}
use Rattle.model.specs.Refusal.{Rule, checked, Told, tell, told}
use Rattle.model.specs.Rules.{size_rules, matrix_rules, assignment_rules, table_rules}
use Rattle.conflicts.specs.Conflict.{conflict}
use Rattle.judge.specs.declared.Verdict.{Verdict}
use Rattle.judge.specs.declared.Verdict.TheVariants.{Enforces, Conflict}

-- 1, 2, 3, 5, 6, 7, 8
unfoldable pub judge_rules : ℕ → ℕ → List ℕ → Policy → List Rule
judge_rules n k m P =
    size_rules n k P.domains
    ++ (matrix_rules n k m ++ (assignment_rules n P.domains P.assignment ++ table_rules k P.domains P.table))

-- 1 for a conflict, its cell and the value logged there; or 0 for "enforces", and the policy's number of domains
unfoldable pub verdict : ℕ → ℕ → List ℕ → Policy → List ℕ
verdict n k m P = cond (ltb (conflict n k m P) (n * k * n)) (1 ∷ conflict n k m P ∷ get_or m (conflict n k m P) 0 ∷ []) (0 ∷ P.domains ∷ [])

-- what is told: the first of the rules that applies, or the verdict
unfoldable pub judge_told : ℕ → ℕ → List ℕ → Policy → Told
judge_told n k m P = tell (checked (judge_rules n k m P)) (verdict n k m P)

-- the number and values of a verdict, case by case
abbrev pub verdict_values : Verdict → List ℕ
verdict_values (Enforces d) = 0 ∷ d ∷ []
verdict_values (Conflict i x) = 1 ∷ i ∷ x ∷ []

-- what the judge answers: the verdict, or a refusal
abbrev pub Judged : Type 0
Judged = Result Verdict Refusal

abbrev pub judged_told : Judged → Told
judged_told r = told verdict_values r

-- the promise: r is the judgement of P over m
abbrev pub Judges : ℕ → ℕ → List ℕ → Policy → Judged → Type 0
Judges n k m P r = judged_told r ≡ judge_told n k m P
