-- The policy that is built from a full matrix (01, "Alike"; Definition 2.13). Assumes nothing.
use Rattle.std.specs.Prelude.{◌≡◌, List, ℕ, ◌*◌, ◌/◌, ◌%◌, ◌<◌}
use Rattle.model.specs.Below.{tab}
use Rattle.model.specs.Matrix.{Cells}
use Rattle.model.specs.Alike.{alike_test}
use Rattle.model.specs.Classes.{classes, class_of, member_of}
use Rattle.model.specs.Policy.{Policy, domain_of}

-- the table of s by k by t whose cell (p, a, q) is M (r p) a (c q)
unfoldable pub table_of : ℕ → ℕ → ℕ → Cells → (ℕ → ℕ) → (ℕ → ℕ) → List ℕ
table_of s t k M r c = tab (s * k * t) (λ i. M (r (i / t / k)) (i / t % k) (c (i % t)))

-- one domain for each class of alike entities, in order of smallest members; the table's cells are theirs
unfoldable pub built : ℕ → ℕ → Cells → Policy
built n k M = record {
  domains = classes n (alike_test n k M);
  assignment = tab n (class_of n (alike_test n k M));
  table = table_of (classes n (alike_test n k M)) (classes n (alike_test n k M)) k M (member_of n (alike_test n k M)) (member_of n (alike_test n k M));
}

-- Definition 2.13's edge: some member of p may use right a towards some member of q
abbrev pub Edge : ℕ → Cells → Policy → ℕ → ℕ → ℕ → Type 0
Edge n M P p a q = (u : ℕ) × (v : ℕ) × (u < n) × (v < n) × (domain_of P u ≡ p) × (domain_of P v ≡ q) × (M u a v ≡ 1)
