-- What the ask answers (01, "The calls" and "Numbers of refusal"). Assumes nothing.
use Rattle.std.specs.Prelude.{◌≡◌, Bool, List, [], ◌∷◌, ◌++◌, ℕ, ◌*◌, eqb, leb, ltb, length, Result}
use Rattle.model.specs.declared.Fault.TheVariants.{AssignmentLength, TableLength}
use Rattle.model.specs.declared.Fault.TheVariants.{DomainNumber, TableCell}
use Rattle.model.specs.Matrix.{cell_at}
use Rattle.model.specs.declared.Refusal.{Refusal}
use Rattle.model.specs.Policy.{Policy, domain_of, answer}
use Rattle.model.specs.Refusal.{Rule, rule, refusal, cell_refusal, checked, Told, tell, told, flag}
use Rattle.model.specs.Rules.{length_rule, size_rules, request_rules}

-- 6 for u, 6 for v, then 8 for the one cell: that entity's place or that cell's, and no lower one is searched for
unfoldable pub look_rules : ℕ → ℕ → ℕ → ℕ → Policy → List Rule
look_rules k u a v P =
    rule (leb P.domains (domain_of P u)) (refusal DomainNumber u)
    ∷ rule (leb P.domains (domain_of P v)) (refusal DomainNumber v)
    ∷ rule (ltb 1 (answer k P u a v)) (cell_refusal TableCell k P.domains (cell_at k P.domains (domain_of P u) a (domain_of P v)))
    ∷ []

-- 1, 5, 7, 9, and then these
unfoldable pub ask_rules : ℕ → ℕ → ℕ → ℕ → ℕ → Policy → List Rule
ask_rules n k u a v P =
    size_rules n k P.domains
    ++ (length_rule AssignmentLength (length P.assignment) n
    ∷ length_rule TableLength (length P.table) (P.domains * k * P.domains)
    ∷ (request_rules n k u a v ++ look_rules k u a v P))

-- 1 for a grant, 0 for a denial
abbrev pub granted : ℕ → Policy → ℕ → ℕ → ℕ → List ℕ
granted k P u a v = flag (eqb (answer k P u a v) 1)

-- what is told: the first of the rules that applies, or the grant or denial
unfoldable pub ask_told : ℕ → ℕ → ℕ → ℕ → ℕ → Policy → Told
ask_told n k u a v P = tell (checked (ask_rules n k u a v P)) (granted k P u a v)

-- what the ask answers: whether the request is granted, or a refusal
abbrev pub Asked : Type 0
Asked = Result Bool Refusal

-- the answer's number and values, case by case
abbrev pub asked_told : Asked → Told
asked_told r = told flag r

-- the promise: r is the answer to (u, a, v) over P
abbrev pub Answers : ℕ → ℕ → ℕ → ℕ → ℕ → Policy → Asked → Type 0
Answers n k u a v P r = asked_told r ≡ ask_told n k u a v P
