-- What is claimed of the ask, over any answer r that meets its promise (01, "The calls"). Assumes nothing.
use Rattle.std.specs.Prelude.{false, true, Ok, ◌≡◌, ◌↔◌, ℕ, ◌<◌, length}
use Rattle.model.specs.Policy.{Policy, domain_of, Within, answer, Grants}
use Rattle.model.specs.Refusal.{Unrefused}
use Rattle.ask.specs.Ask.{Asked, ask_rules, Answers}

-- all that the answer to (u, a, v) depends on, beside n, k, u, a and v
pub record Coincide (k u a v : ℕ) (P Q : Policy) : Type 0 where
  pub domains : P.domains ≡ Q.domains
  pub entities : length P.assignment ≡ length Q.assignment
  pub size : length P.table ≡ length Q.table
  pub sender : domain_of P u ≡ domain_of Q u
  pub receiver : domain_of P v ≡ domain_of Q v
  pub asked : answer k P u a v ≡ answer k Q u a v

-- demand 2: granted exactly if the policy grants, denied exactly if it does not, where no refusal applies
abbrev pub AskGrants : Type 0
AskGrants = (n k u a v : ℕ) (P : Policy) (r : Asked) → Answers n k u a v P r
    → ((r ≡ Ok true) ↔ (Unrefused (ask_rules n k u a v P) × Grants k P u a v))
    × ((r ≡ Ok false) ↔ (Unrefused (ask_rules n k u a v P) × ¬ Grants k P u a v))

-- and none does for a request in range of a policy within the limits
abbrev pub AskServes : Type 0
AskServes = (n k u a v : ℕ) (P : Policy) → Within n k P → u < n → a < k → v < n → Unrefused (ask_rules n k u a v P)

-- two calls that agree on these answer alike, whatever stands in the other bytes
abbrev pub AskAlone : Type 0
AskAlone = (n k u a v : ℕ) (P Q : Policy) → Coincide k u a v P Q → (r s : Asked) → Answers n k u a v P r → Answers n k u a v Q s → r ≡ s

-- two answers that meet the promise are equal
abbrev pub AskUnique : Type 0
AskUnique = (n k u a v : ℕ) (P : Policy) (r s : Asked) → Answers n k u a v P r → Answers n k u a v P s → r ≡ s
