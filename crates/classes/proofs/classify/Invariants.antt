-- `classes::classify` meets its contract. The invariant (`Numbered`): the first u entities have their numbers, and the classes met so far their
-- smallest members, so that the search among these finds the number of the next one's class. Assumes nothing.
use Rattle.std.specs.Prelude.{replicate}
use Rattle.model.specs.Laid.{alike}
use Rattle.model.proofs.Numbering.{Numbered}
use Rattle.classes.proofs.classify.Given as goal

abbrev pub invariant-loop-u : goal.invariant-loop-u
invariant-loop-u l = Numbered l.m.n (alike l.m) (replicate 64 0) (replicate 64 0) l.domains l.members l.count l.u
