-- The groups of rules give refusals with reasons of the table alone, those of room where theirs is one; and what such rules tell is such a
-- refusal. No function's proof cites it. Assumes nothing.
use mathlib.Core.Path.{◌≡◌}
use mathlib.Core.List.{List}
use Prim.Native.Nat.{ℕ}
use Rattle.std.proofs.Common.{rules}
use Rattle.model.specs.declared.Fault.{Fault}
use Rattle.model.specs.declared.Refusal.{Refusal}
use Rattle.model.specs.Refusal.{Rule, checked, refusal, cell_refusal, told_refusal, tell}
use Rattle.model.specs.Rules.{lowest_rule, size_rules, matrix_rules, full_rules, whole_rules, assignment_rules, table_rules}
use Rattle.model.specs.Rules.{request_rules, pair_rules, room_rules}
use Rattle.model.proofs.Groups.{Gives, gives_group, gives_bad, told_bad}
use Rattle.model.proofs.Reasons.{Listed}

abbrev pub ListedRefusal : Refusal → Type 0
ListedRefusal r = Listed r.fault

-- a refusal that is told by rules which give such refusals alone is such a one
pub told_listed : (rs : List Rule) (vs : List ℕ) → Gives ListedRefusal rs → (r : Refusal) → told_refusal r ≡ tell (checked rs) vs → ListedRefusal r
told_listed rs vs g r t = gives_bad ListedRefusal rs g r (told_bad (checked rs) r vs t)

pub sizes_listed : (n k d : ℕ) → Gives ListedRefusal (size_rules n k d)
unfolding size_rules refusal
sizes_listed n k d = search rules

pub matrix_listed : (n k : ℕ) (m : List ℕ) → Gives ListedRefusal (matrix_rules n k m)
unfolding matrix_rules lowest_rule refusal cell_refusal
matrix_listed n k m = search rules

pub full_listed : (n k : ℕ) (m : List ℕ) → Gives ListedRefusal (full_rules n k m)
unfolding full_rules lowest_rule cell_refusal
full_listed n k m = search rules

pub whole_listed : (n k : ℕ) (m : List ℕ) → Gives ListedRefusal (whole_rules n k m)
unfolding whole_rules
whole_listed n k m =
    gives_group ListedRefusal (size_rules n k 0) _ (sizes_listed n k 0)
    (λ _. gives_group ListedRefusal (matrix_rules n k m) (full_rules n k m) (matrix_listed n k m) (λ _. full_listed n k m))

pub assignment_listed : (n d : ℕ) (l : List ℕ) → Gives ListedRefusal (assignment_rules n d l)
unfolding assignment_rules lowest_rule refusal
assignment_listed n d l = search rules

pub table_listed : (k d : ℕ) (t : List ℕ) → Gives ListedRefusal (table_rules k d t)
unfolding table_rules lowest_rule refusal cell_refusal
table_listed k d t = search rules

pub request_listed : (n k u a v : ℕ) → Gives ListedRefusal (request_rules n k u a v)
unfolding request_rules refusal
request_listed n k u a v = search rules

pub pair_listed : (n u v : ℕ) → Gives ListedRefusal (pair_rules n u v)
unfolding pair_rules refusal
pair_listed n u v = search rules

pub room_listed : (fault : Fault) (have need : ℕ) → Listed fault → Gives ListedRefusal (room_rules fault have need)
unfolding room_rules refusal
room_listed fault have need h = search rules
