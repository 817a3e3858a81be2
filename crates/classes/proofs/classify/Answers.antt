-- `classes::classify` meets its contract. The invariant (`Numbered`): the first u entities have their numbers, and the classes met so far their
-- smallest members, so that the search among these finds the number of the next one's class. Assumes nothing.
use mathlib.Core.Path.{◌≡◌, ap, ◌∙◌}
use mathlib.Core.List.{◌++◌}
use Prim.Native.Nat.{ℕ, ◌-◌, ◌≤◌, ◌<◌}
use native.Mathlib.Omega.{arith}
use lib.ListN.{length}
use Rattle.std.specs.Prelude.{replicate, unwrap_or}
use Rattle.std.proofs.lemmas.List.{drop-replicate}
use Rattle.model.specs.Below.{tab}
use Rattle.model.specs.Laid.{logged, alike}
use Rattle.model.specs.Classes.{class_of, member_of}
use Rattle.model.proofs.Classes.{Tests, member_low}
use Rattle.model.proofs.Loops.{filled, filled_at}
use Rattle.model.proofs.Alike.{alike_tests}
use Rattle.model.proofs.Numbering.{numbered_start, numbered_few, numbered_long, numbered_end, numbered_old, numbered_new}
use Rattle.model.proofs.Numbering.{member_stays, search_class}
use Rattle.classes.proofs.classify.Goals as goal
use Rattle.classes.proofs.classify.Goals.{After-find, At-loop-u, Start, in-Some, in-None}

-- numbers written over zeros
before_zeros : (i : ℕ) (f : ℕ → ℕ) → filled i f (replicate 64 0) ≡ tab i f ++ replicate (64 - i) 0
before_zeros i f = ap (λ z. tab i f ++ z) (drop-replicate i 64 0)

few : (c : At-loop-u) → c.loop-u.count ≤ c.loop-u.u
few c = numbered_few _ _ _ _ _ _ _ _ c.loop-u.invariant

long : (c : At-loop-u) → (length c.loop-u.domains ≡ 64) × (length c.loop-u.members ≡ 64)
long c = numbered_long _ _ _ _ _ _ _ _ c.loop-u.invariant c.args.m.now.laid.entities c.args.m.now.laid.entities

tests : (c : Start) → let a = c.args in Tests a.m.now.n (alike a.m.now)
tests c = let m = c.args.m.now in alike_tests m.n m.k (logged m)

-- what the search answers, or the next number, is the class's
number : (c : After-find) → let a = c.args in unwrap_or c.find.result c.loop-u.count ≡ class_of a.m.now.n (alike a.m.now) c.loop-u.u
number c =
    search_class _ _ _ _ _ _ _ _ c.loop-u.invariant (alike_tests c.args.m.now.n c.args.m.now.k (logged c.args.m.now))
    (omega arith) _ c.find.ensures.first

pub loop-u-init : goal.loop-u-init
loop-u-init c = numbered_start _ _ _ _

pub overflow_cast-domains : goal.overflow_cast-domains
overflow_cast-domains c = omega (arith, c.in-Some.ensures.inside, few (goal.at.overflow_cast-domains c).At-loop-u, c.args.m.now.laid.entities)

pub overflow_cast-domains-in-None : goal.overflow_cast-domains-in-None
overflow_cast-domains-in-None c = omega (arith, few (goal.at.overflow_cast-domains-in-None c).At-loop-u, c.args.m.now.laid.entities)

pub bounds-members-count : goal.bounds-members-count
bounds-members-count c = omega (arith, few (goal.at.bounds-members-count c).At-loop-u, c.args.m.now.laid.entities)

pub overflow_add-count : goal.overflow_add-count
overflow_add-count c = omega (arith, few (goal.at.overflow_add-count c).At-loop-u, c.args.m.now.laid.entities)

pub loop-u-preserved : goal.loop-u-preserved
loop-u-preserved c =
    let l = c.loop-u in
    let is = number (goal.at.loop-u-preserved c).After-find in
    let numbers : l.u < 64 = omega (arith, c.args.m.now.laid.entities) in
    let members : l.count < 64 = omega (arith, few (goal.at.loop-u-preserved c).At-loop-u, c.args.m.now.laid.entities) in
    elim c.match-find.branch [
      | in-Some w ↦ rw (w.domains-is, w.members-is, w.count-is)
          (numbered_old _ _ _ _ _ _ _ _ l.invariant (tests (goal.at.loop-u-preserved c).Start) (omega arith) _ (rw w.in-Some.is at is) numbers
          w.in-Some.ensures.inside)
      | in-None w ↦ rw (w.domains-is, w.members-is, w.count-is)
          (numbered_new _ _ _ _ _ _ _ _ l.invariant (tests (goal.at.loop-u-preserved c).Start) (omega arith) _ (rw w.in-None.is at is) numbers
          (omega arith) members)
    ]

pub find-requires-clause-members : goal.find-requires-clause-members
find-requires-clause-members c =
    let l = c.loop-u in
    let f = few (goal.at.find-requires-clause-members c).At-loop-u in
    record {
      few = omega (arith, f);
      long = omega (arith, (long (goal.at.find-requires-clause-members c).At-loop-u).1, c.args.m.now.laid.entities, f);
      each = member_stays _ _ _ _ _ _ _ _ l.invariant (tests (goal.at.find-requires-clause-members c).Start) (omega arith);
    }

pub invariant_of-result : goal.invariant_of-result
invariant_of-result c =
    let m = c.args.m.now in
    let l = c.loop-u in
    let (all, _, low) = numbered_end _ _ _ _ _ _ _ _ l.invariant (omega arith) in
    let f = few (goal.at.invariant_of-result c).At-loop-u in
    record {
      entities = record {
        few = omega (arith, f);
        long = omega (arith, (long (goal.at.invariant_of-result c).At-loop-u).1, m.laid.entities, f);
        each = λ p h. rw (low, filled_at l.count (member_of m.n (alike m)) (replicate 64 0) p h)
            (member_low m.n (alike m) (tests (goal.at.invariant_of-result c).Start) p (rw all at h));
      };
    }

pub returns-clause-count : goal.returns-clause-count
returns-clause-count c = (numbered_end _ _ _ _ _ _ _ _ c.loop-u.invariant (omega arith)).0

pub returns-clause-domains : goal.returns-clause-domains
returns-clause-domains c =
    let m = c.args.m.now in
    (numbered_end _ _ _ _ _ _ _ _ c.loop-u.invariant (omega arith)).1 ∙ before_zeros m.n (class_of m.n (alike m))

pub returns-clause-members : goal.returns-clause-members
returns-clause-members c =
    let m = c.args.m.now in
    (numbered_end _ _ _ _ _ _ _ _ c.loop-u.invariant (omega arith)).2 ∙ before_zeros c.loop-u.count (member_of m.n (alike m))
