-- Proved: `gather` meets its contract. The invariant: what v holds and what the steps below g give make up the whole.
use lib.ListN.{length}
use Rattle.linear.specs.Solved.{vec}
use Rattle.marks.specs.Marks.{marked}
use Rattle.visits.proofs.Pushes.{GatheredFrom}
use Rattle.visits.proofs.gather.Given as goal

abbrev pub invariant-loop-g : goal.invariant-loop-g
invariant-loop-g l = GatheredFrom (marked l.lost) (vec l.steps) (length l.steps) l.m l.g l.v
