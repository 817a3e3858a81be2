-- `lowest::lowest_by_blocks` meets its contract. The invariant: no byte of the blocks so far is b or more. A block with no such byte moves on; in
-- the first block that has one, its lowest place is the whole's. Assumes nothing.
use mathlib.Core.Path.{sym, subst}
use Prim.Native.Nat.{◌+◌, ◌*◌, ◌-◌, ◌%◌}
use native.Mathlib.Omega.{arith}
use lib.Dec.{leb}
use lib.ListN.{length}
use Rattle.lowest.proofs.Lowest.{block_clear, block_some, none_in}
use Rattle.lowest.specs.Place.{IsLowest}
use Rattle.lowest.proofs.lowest_by_blocks.Goals as goal

pub returns-in-Some : goal.returns-in-Some
returns-in-Some c =
    let a = c.args in
    let i = c.loop-block.block * 256 in
    block_some (leb a.b) a.s.now i _ (omega arith) (omega arith) c.loop-block.invariant _ c.in-Some.ensures

pub loop-block-preserved : goal.loop-block-preserved
loop-block-preserved c = λ j m n.
    let a = c.args in
    let i = c.loop-block.block * 256 in
    block_clear (leb a.b) a.s.now i _ (omega arith) (omega arith) c.loop-block.invariant c.in_default.ensures j (omega arith)

pub returns-in_err-x : goal.returns-in_err-x
returns-in_err-x c =
    let a = c.args in
    let i = length a.s.now - length a.s.now % 256 in
    let clear = block_clear (leb a.b) a.s.now i (length a.s.now) (omega arith) (omega arith) (λ j m n. c.loop-block.invariant j (omega arith) n)
    c.in_err-x.ensures in
    subst (IsLowest (leb a.b) a.s.now) (sym c.from_residual.ensures) (none_in _ _ (λ j m n. clear j m))

pub returns : goal.returns
returns c =
    let a = c.args in
    let i = length a.s.now - length a.s.now % 256 in
    block_some (leb a.b) a.s.now i (length a.s.now) (omega arith) (omega arith) (λ j m n. c.loop-block.invariant j (omega arith) n) _ c.in_ok-x.ensures
