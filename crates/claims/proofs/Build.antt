-- The claims on the build. What is told shows whether a rule applied; where none did, each buffer is the built policy's bytes before its
-- own later ones (`Written` of `build`). Assumes nothing.
use mathlib.Core.Path.{◌≡◌, sym, ◌∙◌}
use mathlib.Core.List.{[], ◌∷◌, ◌++◌}
use lib.ListN.{length}
use Rattle.std.specs.Prelude.{Ok}
use Rattle.model.specs.declared.Fault.TheVariants.{AssignmentRoom, Room}
use Rattle.model.specs.Refusal.{checked, single}
use Rattle.model.specs.Rules.{whole_rules, room_rules}
use Rattle.model.proofs.Groups.{tell_fine, told_bad, held_bad, group_fine, told_apart, single_one}
use Rattle.model.proofs.Rules.{whole_pass, room_pass}
use Rattle.build.specs.Build.{built_from, table_size, build_rules, build_told}
use Rattle.build.proofs.Written.{policy_written, later}
use Rattle.claims.specs.Build.{BuildWrites, BuildKeeps, BuildServes, BuildUnique}

pub build_unique : BuildUnique
build_unique n k m s t s' t' s'' t'' r q b c =
    (told_apart single single_one r q (b.told ∙ sym c.told), b.assignment ∙ sym c.assignment, b.table ∙ sym c.table)

pub build_writes : BuildWrites
build_writes n k d m s t s' t' b = let l = later n k m s t s' t' d b in (policy_written n k m s t s' t' d b, l.0, l.1)

pub build_keeps : BuildKeeps
unfolding build_told
build_keeps n k m s t s' t' r b =
    let e = told_bad (checked (build_rules n k m (length s) (length t))) r ((built_from n k m).domains ∷ []) b.told in
    (b.assignment ∙ sym (held_bad _ r e (built_from n k m).assignment s), b.table ∙ sym (held_bad _ r e (built_from n k m).table t))

pub build_serves : BuildServes
unfolding build_told build_rules
build_serves n k m s t s' t' r g x y b =
    let d = (built_from n k m).domains in
    told_apart single single_one r (Ok d) (b.told ∙ sym (tell_fine _ fine (d ∷ [])))
  where
    fine : checked (whole_rules n k m ++ (room_rules AssignmentRoom (length s) n ++ room_rules Room (length t) (table_size n k m))) ≡ Ok tt
    fine =
        group_fine (whole_rules n k m) (room_rules AssignmentRoom (length s) n ++ room_rules Room (length t) (table_size n k m)) (whole_pass n k m g)
        ∙ group_fine (room_rules AssignmentRoom (length s) n) (room_rules Room (length t) (table_size n k m)) (room_pass AssignmentRoom (length s) n x)
        ∙ room_pass Room (length t) (table_size n k m) y
