-- The exits of the two tests. The groups of rules stand one after the other; where none applies the matrix or the policy is within the
-- limits, and there is room for its file. Assumes nothing.
use mathlib.Core.Path.{◌≡◌, sym, ap, ◌∙◌}
use mathlib.Core.List.{List, ◌++◌}
use Prim.Native.Nat.{ℕ, ◌+◌, ◌*◌, ◌≤◌}
use native.Mathlib.Omega.{arith}
use lib.ListN.{length}
use Rattle.model.specs.declared.Fault.TheVariants.{Room}
use Rattle.model.specs.declared.Refusal.{Refusal}
use Rattle.model.specs.Refusal.{Checked, Rule, checked}
use Rattle.std.specs.Prelude.{Ok, Err}
use Rattle.model.specs.Matrix.{Holds}
use Rattle.model.specs.Policy.{Policy, Within, domain_of}
use Rattle.model.specs.Rules.{size_rules, matrix_rules, assignment_rules, table_rules, room_rules}
use Rattle.model.proofs.Groups.{group_fine, group_bad, groups_fine}
use Rattle.model.proofs.Rules.{sizes_fine, matrix_fine, assignment_fine, table_fine, room_fine, decided}
use Rattle.layout.specs.Text.{matrix_text, policy_text}
use Rattle.layout.proofs.Contents.{matrix_length, policy_length, short}
use Rattle.writable.specs.Rules.{matrix_write_rules, policy_write_rules}

-- what the two tests go by
pub ruleset fits = (decided, short, matrix_length, policy_length)

-- ---- a matrix

module _ (n k : ℕ) (m : List ℕ) (room : ℕ) where
  cells_room : List Rule
  cells_room = matrix_rules n k m ++ room_rules Room room (length (matrix_text n k m))

  pub matrix_sizes_bad : (r : Refusal) → checked (size_rules n k 0) ≡ Err r → Err r ≡ checked (matrix_write_rules n k m room)
  unfolding matrix_write_rules cells_room
  matrix_sizes_bad r e = sym (group_bad (size_rules n k 0) cells_room r e)

  module _ (sized : checked (size_rules n k 0) ≡ Ok tt) where
    pub matrix_cells_bad : (r : Refusal) → checked (matrix_rules n k m) ≡ Err r → Err r ≡ checked (matrix_write_rules n k m room)
    unfolding matrix_write_rules cells_room
    matrix_cells_bad r e =
        sym (group_fine (size_rules n k 0) cells_room sized ∙ group_bad (matrix_rules n k m) (room_rules Room room (length (matrix_text n k m))) r e)

    pub matrix_room_lem : (r : Checked) → checked (matrix_rules n k m) ≡ Ok tt → r ≡ checked (room_rules Room room (9 + n * (k * n + 5)))
        → r ≡ checked (matrix_write_rules n k m room)
    unfolding matrix_write_rules cells_room
    matrix_room_lem r e q =
        q ∙ ap (λ (z : ℕ). checked (room_rules Room room z)) (sym (matrix_length n k m))
        ∙ sym (group_fine (size_rules n k 0) cells_room sized ∙ group_fine (matrix_rules n k m) (room_rules Room room (length (matrix_text n k m))) e)

  module _ (fine : checked (matrix_write_rules n k m room) ≡ Ok tt) where
    pub matrix_writable : Holds n k 3 m
    unfolding matrix_write_rules
    matrix_writable =
        let (a, b) = groups_fine (size_rules n k 0) (matrix_rules n k m ++ room_rules Room room (length (matrix_text n k m))) fine in
        let s = sizes_fine n k 0 a in
        let f = matrix_fine n k m (groups_fine (matrix_rules n k m) (room_rules Room room (length (matrix_text n k m))) b).0 in
        record { laid = record { entities = s.entities; right = s.right; rights = s.rights; size = f.long }; below = f.below }

    pub matrix_enough : length (matrix_text n k m) ≤ room
    unfolding matrix_write_rules
    matrix_enough =
        let (a, b) = groups_fine (size_rules n k 0) (matrix_rules n k m ++ room_rules Room room (length (matrix_text n k m))) fine in
        room_fine Room room (length (matrix_text n k m)) (groups_fine (matrix_rules n k m) (room_rules Room room (length (matrix_text n k m))) b).1

-- ---- a policy

-- past the first three groups it is within the limits
pub policy_within : (n k : ℕ) (P : Policy) → checked (size_rules n k P.domains) ≡ Ok tt → checked (assignment_rules n P.domains P.assignment) ≡ Ok tt
    → checked (table_rules k P.domains P.table) ≡ Ok tt → Within n k P
unfolding domain_of
policy_within n k P a b c =
    let s = sizes_fine n k P.domains a in
    let l = assignment_fine n P.domains P.assignment b in
    let t = table_fine k P.domains P.table c in
    record {
      entities = s.entities;
      right = s.right;
      rights = s.rights;
      few = s.domains;
      valid = record { entities = l.long; below = λ u h. l.below u (omega (arith, l.long)); size = t.long; cells = t.below };
    }

module _ (n k : ℕ) (P : Policy) (room : ℕ) where
  abbrev d : ℕ
  d = P.domains

  abbrev last : List Rule
  last = room_rules Room room (length (policy_text n k P))

  abbrev table_last : List Rule
  table_last = table_rules k d P.table ++ last

  abbrev names_last : List Rule
  names_last = assignment_rules n d P.assignment ++ table_last

  pub policy_sizes_bad : (r : Refusal) → checked (size_rules n k d) ≡ Err r → Err r ≡ checked (policy_write_rules n k P room)
  unfolding policy_write_rules
  policy_sizes_bad r e = sym (group_bad (size_rules n k d) names_last r e)

  module _ (sized : checked (size_rules n k d) ≡ Ok tt) where
    pub policy_names_bad : (r : Refusal) → checked (assignment_rules n d P.assignment) ≡ Err r → Err r ≡ checked (policy_write_rules n k P room)
    unfolding policy_write_rules
    policy_names_bad r e = sym (group_fine (size_rules n k d) names_last sized ∙ group_bad (assignment_rules n d P.assignment) table_last r e)

    module _ (named : checked (assignment_rules n d P.assignment) ≡ Ok tt) where
      to_table : checked (policy_write_rules n k P room) ≡ checked table_last
      unfolding policy_write_rules
      to_table = group_fine (size_rules n k d) names_last sized ∙ group_fine (assignment_rules n d P.assignment) table_last named

      pub policy_cells_bad : (r : Refusal) → checked (table_rules k d P.table) ≡ Err r → Err r ≡ checked (policy_write_rules n k P room)
      policy_cells_bad r e = sym (to_table ∙ group_bad (table_rules k d P.table) last r e)

      pub policy_room_lem : (r : Checked) → checked (table_rules k d P.table) ≡ Ok tt → r ≡ checked (room_rules Room room (14 + n * 2 + d * (k * d + 5)))
          → r ≡ checked (policy_write_rules n k P room)
      policy_room_lem r e q =
          q ∙ ap (λ (z : ℕ). checked (room_rules Room room z)) (sym (policy_length n k P))
          ∙ sym (to_table ∙ group_fine (table_rules k d P.table) last e)

  module _ (fine : checked (policy_write_rules n k P room) ≡ Ok tt) where
    pub policy_writable : Within n k P
    unfolding policy_write_rules
    policy_writable =
        let (a, b) = groups_fine (size_rules n k d) names_last fine in
        let (c, e) = groups_fine (assignment_rules n d P.assignment) table_last b in
        policy_within n k P a c (groups_fine (table_rules k d P.table) last e).0

    pub policy_enough : length (policy_text n k P) ≤ room
    unfolding policy_write_rules
    policy_enough =
        let (a, b) = groups_fine (size_rules n k d) names_last fine in
        let (c, e) = groups_fine (assignment_rules n d P.assignment) table_last b in
        room_fine Room room (length (policy_text n k P)) (groups_fine (table_rules k d P.table) last e).1
