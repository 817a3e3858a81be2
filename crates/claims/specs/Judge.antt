-- What is claimed of the judge, over any answer r that meets its promise (01, "The calls"). Assumes nothing.
use Rattle.std.specs.Prelude.{Ok, ◌≡◌, ◌↔◌, ◌⊎◌, List, ℕ, ◌<◌}
use Rattle.model.specs.Matrix.{Cells, cell_at, cell, Holds}
use Rattle.model.specs.Policy.{Policy, Within, Grants, Enforces}
use Rattle.model.specs.Refusal.{Unrefused}
use Rattle.judge.specs.declared.Verdict.TheVariants as judged
use Rattle.judge.specs.Judge.{Judged, judge_rules, Judges}

-- P contradicts what M logs at (u, a, v)
abbrev pub Contradicts : ℕ → Cells → Policy → ℕ → ℕ → ℕ → Type 0
Contradicts k M P u a v = ((M u a v ≡ 1) × ¬ Grants k P u a v) ⊎ ((M u a v ≡ 0) × Grants k P u a v)

-- cell i, with the value x, is the first in cell order that P contradicts
pub record FirstConflict (n k : ℕ) (M : Cells) (P : Policy) (i x : ℕ) : Type 0 where
  pub sender : ℕ
  pub right : ℕ
  pub receiver : ℕ
  pub inside : (sender < n) × (right < k) × (receiver < n)
  pub place : i ≡ cell_at k n sender right receiver
  pub logged : x ≡ M sender right receiver
  pub contradicts : Contradicts k M P sender right receiver
  pub first : (u a v : ℕ) → u < n → a < k → v < n → cell_at k n u a v < i → ¬ Contradicts k M P u a v

-- demand 2: accepted exactly if it enforces every logged cell; and then the number told is the policy's number of domains
abbrev pub JudgeAccepts : Type 0
JudgeAccepts = (n k : ℕ) (m : List ℕ) (P : Policy) (r : Judged) → Judges n k m P r
    → (d : ℕ) → (r ≡ Ok (judged.Enforces d)) ↔ (Unrefused (judge_rules n k m P) × Enforces n k (cell k n m) P × (d ≡ P.domains))

-- and otherwise the conflict told is the first, with what is logged there
abbrev pub JudgeConflicts : Type 0
JudgeConflicts = (n k : ℕ) (m : List ℕ) (P : Policy) (r : Judged) → Judges n k m P r
    → (i x : ℕ) → (r ≡ Ok (judged.Conflict i x)) ↔ (Unrefused (judge_rules n k m P) × FirstConflict n k (cell k n m) P i x)

-- no refusal applies to a matrix, full or not, and a policy within the limits
abbrev pub JudgeServes : Type 0
JudgeServes = (n k : ℕ) (m : List ℕ) (P : Policy) → Holds n k 3 m → Within n k P → Unrefused (judge_rules n k m P)

-- two answers that meet the promise are equal
abbrev pub JudgeUnique : Type 0
JudgeUnique = (n k : ℕ) (m : List ℕ) (P : Policy) (r q : Judged) → Judges n k m P r → Judges n k m P q → r ≡ q
