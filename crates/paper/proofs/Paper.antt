-- The claims on the definitions: each is a law of `model`. Assumes nothing.
use mathlib.Core.Path.{subst}
use Prim.Native.Nat.{ℕ, ◌≤◌}
use native.Mathlib.Nat.{le_trans}
use Rattle.model.proofs.Alike.{alike_iff, alike_equivalence, alike_sound, alike_complete}
use Rattle.model.proofs.Built.{built_alike, built_smallest, built_edge, built_rises, built_used, built_few, built_valid, built_enforces}
use Rattle.model.proofs.Built.{together_alike, built_together, built_fewest}
use Rattle.model.proofs.Fillings.{filling_cells, enforces_filling}
use Rattle.paper.specs.Paper.{AlikeEquivalence, AlikeLines, AlikeTested, SharedAlike, TableCells, TableEdges, NumberedInOrder}
use Rattle.paper.specs.Paper.{BuiltUsed, BuiltEnforces, TogetherAlike, Demand3, FewestDomains, FillingCells, EnforcesFilling}

pub proposition_2_12 : AlikeEquivalence
proposition_2_12 n k M = alike_equivalence n k M

pub lemma_A_3 : AlikeLines
lemma_A_3 n k M u v h l = alike_iff n k M u v h l

pub alike_tested : AlikeTested
alike_tested n k M u v h l = (alike_sound n k M u v h l, alike_complete n k M u v h l)

pub shared_alike : SharedAlike
shared_alike n k M u v h l = built_alike n k M u v h l

pub table_cells : TableCells
table_cells n k M u a v h b l = built_smallest n k M u a v h b l

pub table_edges : TableEdges
table_edges n k M p a q h b l = built_edge n k M p a q h b l

pub numbered_in_order : NumberedInOrder
numbered_in_order n k M u v h l b = built_rises n k M u v h l b

pub built_members : BuiltUsed
built_members n k M = (built_used n k M, built_few n k M)

pub theorem_2_14 : BuiltEnforces
theorem_2_14 n k M full = (built_valid n k M full, built_enforces n k M)

pub lemma_A_6 : TogetherAlike
lemma_A_6 n k M full P E u v h l s = together_alike n k M P full E u v h l s

pub demand_3 : Demand3
demand_3 n k M full limit b u v h l = built_together n k M full limit b u v h l

pub fewest_domains : FewestDomains
fewest_domains n k M full e = (
  λ f. subst (λ (x : ℕ). e ≤ x) (built_used n k M) (f _ (built_valid n k M full) (built_enforces n k M)),
  λ h P ok E. le_trans h (built_fewest n k M full P ok E),
)

pub definition_3_1 : FillingCells
definition_3_1 n k M F = filling_cells n k M F

pub filling : EnforcesFilling
filling n k M P = enforces_filling n k M P
