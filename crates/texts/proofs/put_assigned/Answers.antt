-- `texts::put_assigned` meets its contract: the mark, the numbers and the line feed stand one behind the other, a number for each entity,
-- and no domain number has more than two digits. Assumes nothing.
use mathlib.Core.Path.{subst}
use mathlib.Core.List.{[], ◌∷◌, ◌++◌}
use native.Mathlib.Omega.{arith}
use lib.ListN.{get_or}
use Rattle.model.specs.Policy.{domain_of}
use Rattle.layout.specs.Text.{AS, each, two, line}
use Rattle.writers.specs.Writes.{Writes}
use Rattle.writers.proofs.Writes.{behind}
use Rattle.texts.proofs.put_assigned.Goals as goal

pub put_numbers-requires-clause-below_100 : goal.put_numbers-requires-clause-below_100
unfolding domain_of
put_numbers-requires-clause-below_100 c i h =
    let f = c.args.p.now.within in
    omega (arith, f.valid.below i (omega (arith, f.valid.entities)), f.few)

pub returns-clause-written : goal.returns-clause-written
unfolding domain_of
returns-clause-written c =
    let p = c.args.p.now in
    subst (λ z. Writes c.args.out.now c.put-2.new.self (line (AS ++ each z (λ u. two (get_or p.assignment.now u 0))))) p.within.valid.entities
    (behind _ (10 ∷ []) (behind AS _ c.put.ensures c.put_numbers.ensures.written) c.put-2.ensures)
