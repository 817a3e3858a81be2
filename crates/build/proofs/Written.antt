-- What the build's promise says where domains are told: no rule applied, so the matrix is full, and each buffer is the built policy's bytes
-- before its own later ones. Assumes nothing.
use mathlib.Core.Path.{◌≡◌, sym, ap, ◌∙◌}
use mathlib.Core.List.{List, [], ◌∷◌, ◌++◌}
use Prim.Native.Nat.{ℕ, ◌*◌, ◌<◌}
use lib.ListN.{length, get_or, take, drop, get_or-append}
use lib.Seq.{take_at, drop_at}
use Rattle.std.specs.Prelude.{Ok}
use Rattle.model.specs.declared.Fault.TheVariants.{AssignmentRoom, Room}
use Rattle.model.specs.Matrix.{cell, Holds}
use Rattle.model.specs.Policy.{policy, written, domain_of}
use Rattle.model.specs.Refusal.{checked}
use Rattle.model.specs.Rules.{whole_rules, room_rules}
use Rattle.model.proofs.Built.{built_entities, built_size}
use Rattle.model.proofs.Groups.{told_fine, held_fine, groups_fine}
use Rattle.model.proofs.Rules.{whole_fine}
use Rattle.build.specs.Build.{built_from, table_size, build_rules, build_told, Builds}

module _ (n k : ℕ) (m s t s' t' : List ℕ) where
  module _ (d : ℕ) (b : Builds n k m s t (Ok d) s' t') where
    -- no rule applied, and d is the built policy's
    shown : (checked (build_rules n k m (length s) (length t)) ≡ Ok tt) × ((d ∷ []) ≡ ((built_from n k m).domains ∷ []))
    unfolding build_told
    shown = told_fine (checked (build_rules n k m (length s) (length t))) (d ∷ []) ((built_from n k m).domains ∷ []) b.told

    pub domains_told : d ≡ (built_from n k m).domains
    domains_told = let e = shown.1 in cc

    -- so the matrix is full
    pub whole_built : Holds n k 2 m
    unfolding build_rules
    whole_built =
        let rooms = room_rules AssignmentRoom (length s) n ++ room_rules Room (length t) (table_size n k m) in
        whole_fine n k m (groups_fine (whole_rules n k m) rooms shown.0).0

    bytes : s' ≡ (built_from n k m).assignment ++ drop n s
    bytes = b.assignment ∙ sym (held_fine _ shown.0 (built_from n k m).assignment s n (built_entities n k (cell k n m)))

    cells : t' ≡ (built_from n k m).table ++ drop (d * k * d) t
    cells = b.table ∙ sym (held_fine _ shown.0 (built_from n k m).table t (d * k * d) size)
      where
        size : length (built_from n k m).table ≡ d * k * d
        size = built_size n k (cell k n m) ∙ sym (λ i. domains_told i * k * domains_told i)

    pub policy_written : written n k d s' t' ≡ built_from n k m
    policy_written = λ i. policy (domains_told i) (first_bytes i) (first_cells i)
      where
        first_bytes : take n s' ≡ (built_from n k m).assignment
        first_bytes = ap (take n) bytes ∙ take_at (built_from n k m).assignment (drop n s) n (built_entities n k (cell k n m))

        first_cells : take (d * k * d) t' ≡ (built_from n k m).table
        first_cells = ap (take (d * k * d)) cells ∙ take_at (built_from n k m).table (drop (d * k * d) t) (d * k * d)
            (built_size n k (cell k n m) ∙ sym (λ i. domains_told i * k * domains_told i))

    -- each entity's byte is its domain
    pub byte_written : (u : ℕ) → u < n → get_or s' u 0 ≡ domain_of (built_from n k m) u
    unfolding domain_of
    byte_written u h = ap (λ (l : List ℕ). get_or l u 0) bytes
        ∙ get_or-append (built_from n k m).assignment (drop n s) 0 u (rw (built_entities n k (cell k n m)) h)

    pub later : (drop n s' ≡ drop n s) × (drop (d * k * d) t' ≡ drop (d * k * d) t)
    later = (
      ap (drop n) bytes ∙ drop_at (built_from n k m).assignment (drop n s) n (built_entities n k (cell k n m)),
      ap (drop (d * k * d)) cells ∙ drop_at (built_from n k m).table (drop (d * k * d) t) (d * k * d)
          (built_size n k (cell k n m) ∙ sym (λ i. domains_told i * k * domains_told i)),
    )
