-- The exits of the build. Where a rule before the last applies, nothing was written. Past them the classes are numbered, and what is
-- written from the numbers and the members is the built policy. Assumes nothing.
use mathlib.Core.Path.{◌≡◌, sym, ap, ◌∙◌}
use mathlib.Core.Bool.{Bool}
use mathlib.Core.List.{List, [], ◌∷◌, ◌++◌, append_assoc}
use Prim.Native.Nat.{ℕ, ◌*◌, ◌/◌, ◌%◌, ◌<◌}
use lib.ListN.{length, get_or-append}
use Rattle.model.specs.declared.Fault.TheVariants.{AssignmentRoom, Room}
use Rattle.model.specs.declared.Refusal.{Refusal}
use Rattle.std.specs.Prelude.{Ok, Err}
use Rattle.model.specs.Below.{tab}
use Rattle.model.specs.Matrix.{cell}
use Rattle.model.specs.Alike.{alike_test}
use Rattle.model.specs.Classes.{classes, class_of, member_of}
use Rattle.model.specs.Built.{table_of, built}
use Rattle.model.specs.Refusal.{Rule, checked, tell, held}
use Rattle.model.specs.Rules.{whole_rules, room_rules}
use Rattle.model.proofs.Below.{tab_same, length_tab, get_or_tab}
use Rattle.model.proofs.Places.{place}
use Rattle.model.proofs.Groups.{group_fine, group_bad, tell_bad, held_bad}
use Rattle.classes.specs.Members.{nth}
use Rattle.build.specs.Build.{Built, built_from, table_size, build_rules, build_told, built_told, Builds}

first_at : (i : ℕ) (f : ℕ → ℕ) (later : List ℕ) (j : ℕ) → j < i → nth (tab i f ++ later) j ≡ f j
first_at i f later j h = get_or-append (tab i f) later 0 j (rw length_tab h) ∙ get_or_tab i f j h

module _ (n k : ℕ) (m s t : List ℕ) where
  abbrev like : ℕ → ℕ → Bool
  like = alike_test n k (cell k n m)

  early : List Rule
  early = whole_rules n k m ++ room_rules AssignmentRoom (length s) n

  last : List Rule
  last = room_rules Room (length t) (table_size n k m)

  both : checked (build_rules n k m (length s) (length t)) ≡ checked (early ++ last)
  unfolding build_rules early last
  both = sym (ap checked (append_assoc (whole_rules n k m) (room_rules AssignmentRoom (length s) n) (room_rules Room (length t) (table_size n k m))))

  pub early_bad : (r : Refusal) → checked (whole_rules n k m ++ room_rules AssignmentRoom (length s) n) ≡ Err r → Builds n k m s t (Err r) s t
  unfolding early build_told
  early_bad r e =
      let c = checked (build_rules n k m (length s) (length t)) in
      let q : c ≡ Err r = both ∙ group_bad early last r e in
      record { told = tell_bad c r q _; assignment = held_bad c r q _ s; table = held_bad c r q _ t }

  pub whole_bad : (r : Refusal) → Err r ≡ checked (whole_rules n k m) → Builds n k m s t (Err r) s t
  unfolding early
  whole_bad r e = early_bad r (group_bad (whole_rules n k m) (room_rules AssignmentRoom (length s) n) r (sym e))

  module _ (whole : Ok tt ≡ checked (whole_rules n k m)) where
    past : checked (whole_rules n k m ++ room_rules AssignmentRoom (length s) n) ≡ checked (room_rules AssignmentRoom (length s) n)
    past = group_fine (whole_rules n k m) (room_rules AssignmentRoom (length s) n) (sym whole)

    pub room_bad : (r : Refusal) → Err r ≡ checked (room_rules AssignmentRoom (length s) n) → Builds n k m s t (Err r) s t
    unfolding early
    room_bad r e = early_bad r (past ∙ sym e)

    module _ (room : Ok tt ≡ checked (room_rules AssignmentRoom (length s) n)) (d : ℕ) (of₀ low₀ of low : List ℕ) (is : d ≡ classes n like)
        (numbers : of ≡ tab n (class_of n like) ++ of₀) (members : low ≡ tab d (member_of n like) ++ low₀) where
      member_at : (p : ℕ) → p < d → nth low p ≡ member_of n like p
      member_at p h = rw members (first_at d (member_of n like) low₀ p h)

      is_domains : d ≡ (built_from n k m).domains
      unfolding built
      is_domains = is

      is_assignment : tab n (nth of) ≡ (built_from n k m).assignment
      unfolding built
      is_assignment = tab_same n (nth of) (class_of n like) (λ u h. rw numbers (first_at n (class_of n like) of₀ u h))

      is_table : table_of d d k (cell k n m) (nth low) (nth low) ≡ (built_from n k m).table
      unfolding built table_of
      is_table =
          tab_same (d * k * d) _ (λ i. cell k n m (member_of n like (i / d / k)) (i / d % k) (member_of n like (i % d))) (λ i h.
          let w = place d k d i h in
          λ j. cell k n m (member_at (i / d / k) w.sender j) (i / d % k) (member_at (i % d) w.receiver j))
          ∙ λ j. tab (is j * k * is j) (λ i. cell k n m (member_of n like (i / is j / k)) (i / is j % k) (member_of n like (i % is j)))

      found : checked (room_rules Room (length t) (d * k * d)) ≡ checked (build_rules n k m (length s) (length t))
      unfolding early last
      found = (λ j. checked (room_rules Room (length t) (is_domains j * k * is_domains j))) ∙ sym (both ∙ group_fine early last (past ∙ sym room))

      pub wrote : (r : Built) (s' t' : List ℕ)
          → built_told r ≡ tell (checked (room_rules Room (length t) (d * k * d))) (d ∷ [])
          → s' ≡ held (checked (room_rules Room (length t) (d * k * d))) (tab n (nth of)) s
          → t' ≡ held (checked (room_rules Room (length t) (d * k * d))) (table_of d d k (cell k n m) (nth low) (nth low)) t
          → Builds n k m s t r s' t'
      unfolding build_told
      wrote r s' t' told bytes cells = record {
        told = told ∙ λ j. tell (found j) (is_domains j ∷ []);
        assignment = bytes ∙ λ j. held (found j) (is_assignment j) s;
        table = cells ∙ λ j. held (found j) (is_table j) t;
      }
