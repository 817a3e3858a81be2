-- What is claimed of the definitions, each under the paper's number. Assumes nothing.
use Rattle.std.specs.Prelude.{◌≡◌, ◌↔◌, ◌⊎◌, ℕ, ◌≤◌, ◌<◌, T}
use Rattle.model.specs.Matrix.{Cells, cell, Full, Fills}
use Rattle.model.specs.Alike.{Alike, SameRows, flip, alike_test}
use Rattle.model.specs.Classes.{Equivalence, smallest}
use Rattle.model.specs.Policy.{Policy, domain_of, Valid, answer, Enforces, used, Together}
use Rattle.model.specs.Built.{Edge, built}

-- Proposition 2.12: alike is an equivalence
abbrev pub AlikeEquivalence : Type 0
AlikeEquivalence = (n k : ℕ) (M : Cells) → Equivalence n (Alike n k M)

-- Lemma A.3, Observation 4.4 (2): alike is equal rows and equal columns, the pair's own included
abbrev pub AlikeLines : Type 0
AlikeLines = (n k : ℕ) (M : Cells) (u v : ℕ) → u < n → v < n → Alike n k M u v ↔ (SameRows n k M u v × SameRows n k (flip M) u v)

-- the test that `built` uses is a test of alike
abbrev pub AlikeTested : Type 0
AlikeTested = (n k : ℕ) (M : Cells) (u v : ℕ) → u < n → v < n → T (alike_test n k M u v) ↔ Alike n k M u v

-- u and v share a domain in the built policy
abbrev pub Share : ℕ → ℕ → Cells → ℕ → ℕ → Type 0
Share n k M u v = domain_of (built n k M) u ≡ domain_of (built n k M) v

-- Definition 2.13: one domain for each class
abbrev pub SharedAlike : Type 0
SharedAlike = (n k : ℕ) (M : Cells) (u v : ℕ) → u < n → v < n → Share n k M u v ↔ Alike n k M u v

-- a table cell is the matrix cell from smallest member to smallest member
abbrev pub TableCells : Type 0
TableCells = (n k : ℕ) (M : Cells) (u a v : ℕ) → u < n → a < k → v < n
    → answer k (built n k M) u a v ≡ M (smallest n (alike_test n k M) u) a (smallest n (alike_test n k M) v)

-- Definition 2.13: it is a grant exactly where some pair of members has one
abbrev pub TableEdges : Type 0
TableEdges = (n k : ℕ) (M : Cells) (p a q : ℕ) → p < (built n k M).domains → a < k → q < (built n k M).domains
    → (cell k (built n k M).domains (built n k M).table p a q ≡ 1) ↔ Edge n M (built n k M) p a q

-- domains are numbered in order of their smallest members
abbrev pub NumberedInOrder : Type 0
NumberedInOrder = (n k : ℕ) (M : Cells) (u v : ℕ) → u < n → v < n → smallest n (alike_test n k M) u < smallest n (alike_test n k M) v
    → domain_of (built n k M) u < domain_of (built n k M) v

-- every built domain has a member, so there are no more domains than entities
abbrev pub BuiltUsed : Type 0
BuiltUsed = (n k : ℕ) (M : Cells) → (used n (built n k M) ≡ (built n k M).domains) × ((built n k M).domains ≤ n)

-- Theorem 2.14, first half: the built policy is a policy, and enforces its matrix
abbrev pub BuiltEnforces : Type 0
BuiltEnforces = (n k : ℕ) (M : Cells) → Full n k M → Valid n k (built n k M) × Enforces n k M (built n k M)

-- Lemma A.6: what an enforcing policy puts together is alike, whatever its number of domains
abbrev pub TogetherAlike : Type 0
TogetherAlike = (n k : ℕ) (M : Cells) → Full n k M → (P : Policy) → Enforces n k M P
    → (u v : ℕ) → u < n → v < n → domain_of P u ≡ domain_of P v → Alike n k M u v

-- Demand 3: two entities share a built domain exactly when some enforcing policy puts them together. The limit on that policy's
-- domains may be 64, as in document 01, or any other number from n on
abbrev pub Demand3 : Type 0
Demand3 = (n k : ℕ) (M : Cells) → Full n k M → (limit : ℕ) → n ≤ limit
    → (u v : ℕ) → u < n → v < n → Share n k M u v ↔ Together limit n k M u v

-- so no enforcing policy has fewer domains with a member (Theorem 2.14, second half, for domains): a number e is no greater than any of
-- theirs exactly if it is no greater than the built policy's
abbrev pub FewestDomains : Type 0
FewestDomains = (n k : ℕ) (M : Cells) → Full n k M
    → (e : ℕ) → ((P : Policy) → Valid n k P → Enforces n k M P → e ≤ used n P) ↔ (e ≤ (built n k M).domains)

-- Definition 3.1: a filling has a 0 or a 1 in every cell, and what the matrix logs wherever that logs something
abbrev pub FillingCells : Type 0
FillingCells = (n k : ℕ) (M F : Cells)
    → Fills n k M F ↔ ((u a v : ℕ) → u < n → a < k → v < n
    → ((F u a v ≡ 0) ⊎ (F u a v ≡ 1)) × (((M u a v ≡ 0) ⊎ (M u a v ≡ 1)) → F u a v ≡ M u a v))

-- a policy enforces a matrix with gaps exactly if it enforces some filling of it
abbrev pub EnforcesFilling : Type 0
EnforcesFilling = (n k : ℕ) (M : Cells) (P : Policy) → Enforces n k M P ↔ ((F : Cells) × Fills n k M F × Enforces n k F P)
