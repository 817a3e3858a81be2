-- Policies, what they grant and what they enforce (01, "Matrix and policy"; Definitions 2.2, 2.3, 3.1). Assumes nothing.
use Rattle.std.specs.Prelude.{◌≡◌, List, ℕ, ◌*◌, ◌≤◌, ◌<◌, length, get_or, take, eqb}
use Rattle.model.specs.Below.{any, count}
use Rattle.model.specs.Matrix.{Cells, cell}

-- Definition 2.2: domains with a table between them, and a domain for each entity
pub record Policy : Type 0 where
  pub domains : ℕ
  pub assignment : List ℕ
  pub table : List ℕ

abbrev pub policy : ℕ → List ℕ → List ℕ → Policy
policy d s t = record { domains = d; assignment = s; table = t }

-- the policy that stands in the first bytes of two buffers
abbrev pub written : ℕ → ℕ → ℕ → List ℕ → List ℕ → Policy
written n k d s t = policy d (take n s) (take (d * k * d) t)

-- the domain of u
unfoldable pub domain_of : Policy → ℕ → ℕ
domain_of P u = get_or P.assignment u 0

-- a policy for n entities and k rights. Its domains may be any number, and some may have no member
pub record Valid (n k : ℕ) (P : Policy) : Type 0 where
  pub entities : length P.assignment ≡ n
  pub below : (u : ℕ) → u < n → domain_of P u < P.domains
  pub size : length P.table ≡ P.domains * k * P.domains
  pub cells : (i : ℕ) → i < length P.table → get_or P.table i 0 < 2

-- a policy within the limits
pub record Within (n k : ℕ) (P : Policy) : Type 0 where
  pub entities : n ≤ 64
  pub right : 0 < k
  pub rights : k ≤ 8
  pub few : P.domains ≤ 64
  pub valid : Valid n k P

-- the table's cell for the request (u, a, v)
unfoldable pub answer : ℕ → Policy → Cells
answer k P u a v = cell k P.domains P.table (domain_of P u) a (domain_of P v)

-- the policy grants (u, a, v)
abbrev pub Grants : ℕ → Policy → ℕ → ℕ → ℕ → Type 0
Grants k P u a v = answer k P u a v ≡ 1

-- answers G, in which 1 is a grant, agree with M's logged cells (Definitions 2.3, 3.1). A cell that is 2 binds nothing
pub record Agrees (n k : ℕ) (M G : Cells) : Type 0 where
  pub grants : (u a v : ℕ) → u < n → a < k → v < n → M u a v ≡ 1 → G u a v ≡ 1
  pub denies : (u a v : ℕ) → u < n → a < k → v < n → M u a v ≡ 0 → ¬ (G u a v ≡ 1)

-- the policy enforces M: its answers agree with M
abbrev pub Enforces : ℕ → ℕ → Cells → Policy → Type 0
Enforces n k M P = Agrees n k M (answer k P)

-- how many of d labels have a member, where f gives each entity its label
unfoldable pub labels : ℕ → ℕ → (ℕ → ℕ) → ℕ
labels n d f = count d (λ p. any n (λ u. eqb (f u) p))

-- how many domains have a member
unfoldable pub used : ℕ → Policy → ℕ
used n P = labels n P.domains (domain_of P)

-- some policy of at most `limit` domains that enforces M puts u and v together
pub record Together (limit n k : ℕ) (M : Cells) (u v : ℕ) : Type 0 where
  pub policy : Policy
  pub few : policy.domains ≤ limit
  pub valid : Valid n k policy
  pub enforces : Enforces n k M policy
  pub shared : domain_of policy u ≡ domain_of policy v
