-- `lowest::some_passes` meets its contract. The invariant: `found` says whether one of the bytes so far passes. Assumes nothing.
use Rattle.std.proofs.Common.{◌≡◌, sym, arith, length}
use Rattle.model.proofs.Loops.{any_none, any_next}
use Rattle.lowest.proofs.some_passes.Goals as goal

pub loop-x-init : goal.loop-x-init
loop-x-init g c p h = sym (any_none _)

pub loop-x-preserved : goal.loop-x-preserved
loop-x-preserved g c p h = rw (h _ _ (omega arith) c.test-found.ensures) (any_next _ _ _ (c.loop-x.invariant p h))

pub returns : goal.returns
returns g c p h = let e : c.loop-x.x-index ≡ length c.args.s.now = omega arith in rw (← e) (c.loop-x.invariant p h)
