-- Past the first ten refusals the matrix is full and the assignment has room, and the classes' numbers and members are as many as are
-- read. No function's proof cites it. Assumes nothing.
use mathlib.Core.Path.{◌≡◌}
use mathlib.Core.Bool.{Bool}
use mathlib.Core.List.{List, ◌++◌}
use Prim.Native.Nat.{ℕ, ◌≤◌, ◌<◌}
use native.Mathlib.Omega.{arith}
use lib.ListN.{length, length-append, length-drop}
use Rattle.std.specs.Prelude.{Ok}
use Rattle.model.specs.declared.Fault.TheVariants.{AssignmentRoom}
use Rattle.model.specs.Matrix.{cell, Holds}
use Rattle.model.specs.Alike.{alike_test}
use Rattle.model.specs.Classes.{classes, class_of, member_of}
use Rattle.model.specs.Refusal.{checked}
use Rattle.model.specs.Rules.{whole_rules, room_rules}
use Rattle.model.proofs.Below.{length_tab}
use Rattle.model.proofs.Loops.{filled, filled_at}
use Rattle.model.proofs.Groups.{groups_fine}
use Rattle.model.proofs.Classes.{classes_le, member_low}
use Rattle.model.proofs.Alike.{alike_tests}
use Rattle.model.proofs.Rules.{whole_fine, room_fine}
use Rattle.classes.specs.Members.{nth, Members}

filled_long : (i : ℕ) (f : ℕ → ℕ) (l : List ℕ) → i ≤ length (filled i f l)
filled_long i f l = rw (length-append, length_tab, length-drop) (omega arith)

module _ (n k : ℕ) (m s : List ℕ) where
  abbrev like : ℕ → ℕ → Bool
  like = alike_test n k (cell k n m)

  module _ (fine : checked (whole_rules n k m ++ room_rules AssignmentRoom (length s) n) ≡ Ok tt) where
    pub whole : Holds n k 2 m
    whole = whole_fine n k m (groups_fine (whole_rules n k m) (room_rules AssignmentRoom (length s) n) fine).0

    pub room : n ≤ length s
    room = room_fine AssignmentRoom (length s) n (groups_fine (whole_rules n k m) (room_rules AssignmentRoom (length s) n) fine).1

  module _ (d : ℕ) (of₀ low₀ of low : List ℕ) (is : d ≡ classes n like)
      (numbers : of ≡ filled n (class_of n like) of₀) (members : low ≡ filled d (member_of n like) low₀) where
    pub numbers_long : n ≤ length of
    numbers_long = rw numbers (filled_long n (class_of n like) of₀)

    member_at : (p : ℕ) → p < d → nth low p ≡ member_of n like p
    member_at p h = rw members (filled_at d (member_of n like) low₀ p h)

    pub members_in : Members n d low
    members_in = record {
      few = rw is (classes_le n like);
      long = rw members (filled_long d (member_of n like) low₀);
      each = λ p h. rw (member_at p h) (member_low n like (alike_tests n k (cell k n m)) p (rw is at h));
    }
