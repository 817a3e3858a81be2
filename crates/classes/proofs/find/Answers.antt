-- `classes::find` meets its contract: the first member that passes the test is the first number below d whose member does. Assumes nothing.
use mathlib.Core.Path.{◌≡◌, refl}
use mathlib.Core.Bool.{Bool, true, false, not, cond}
use mathlib.Core.List.{List, [], ◌∷◌}
use Prim.Native.Nat.{ℕ, zero, suc, ◌+◌, ◌≤◌, ◌<◌}
use native.Mathlib.Omega.{arith}
use lib.ListN.{length, get_or, take, length-take}
use Rattle.std.proofs.Common.{rules}
use Rattle.std.proofs.lemmas.Grind.{common_steps}
use Rattle.std.specs.Prelude.{position, unwrap_or}
use Rattle.std.specs.List.{position_or_len}
use Rattle.std.proofs.lemmas.Bool.Decides.{nat_tests}
use Rattle.std.proofs.lemmas.List.Sums.{prefix_len-le-length}
use Rattle.std.proofs.lemmas.Iterator.{YieldsList-from_slice}
use Rattle.std.proofs.lemmas.Iterator.Adapters.{serves_from_places}
use Rattle.std.proofs.lemmas.Iterator.Search.{position_from_yields_List}
use Rattle.model.specs.Below.{first}
use Rattle.model.specs.Laid.{alike}
use Rattle.classes.specs.Members.{nth, Members}
use Rattle.classes.proofs.find.Goals as goal

-- a member is an entity
entity : {n d : ℕ} {low : List ℕ} → Members n d low → (k x : ℕ) → k < length (take d low) → x ≡ get_or (take d low) k x → x < n
entity M k x h e = grind (arith, common_steps, M.each k)

-- how many members are passed before one that passes the test
place : (p : ℕ → Bool) (d : ℕ) (low : List ℕ) → d ≤ length low → position_or_len p (take d low) ≡ first d (λ c. p (nth low c))
unfolding first
place p zero low h = refl
place p (suc d) [] h = absurd (omega arith)
place p (suc d) (x ∷ xs) h = next (p x) (place p d xs (omega arith))
  where
    next : (b : Bool) {q r : ℕ} → q ≡ r → cond (not b) (1 + q) 0 ≡ cond b 0 (suc r)
    next true e = refl
    next false e = omega (arith, e)

-- the place, or d where there is none
place_or : (p : ℕ → Bool) (d : ℕ) (low : List ℕ) → d ≤ length low → unwrap_or (position p (take d low)) d ≡ first d (λ c. p (nth low c))
place_or p d low h =
    let is = place p d low h in
    let under = prefix_len-le-length (λ x. not (p x)) (take d low) in
    let long = length-take d low in
    grind (arith, nat_tests)

pub position-requires-clause-callable : goal.position-requires-clause-callable
position-requires-clause-callable c =
    serves_from_places (YieldsList-from_slice _ c.iter.ensures.rest) (λ x q e. search rules)
    (λ x k l e. let inside = entity c.requires.members k x.now l e in search rules)

pub returns-clause-first : goal.returns-clause-first
returns-clause-first c =
    let a = c.args in
    let likes : ℕ → Bool = alike a.m.now a.u in
    let found : c.position.result ≡ position likes (take a.d a.members.now) = position_from_yields_List _ _ _ c.position.result c.position.ensures.ran
    (YieldsList-from_slice _ c.iter.ensures.rest) (λ x b q k. (search rules, search rules)) in
    rw found (place_or likes a.d a.members.now c.requires.members.long)
