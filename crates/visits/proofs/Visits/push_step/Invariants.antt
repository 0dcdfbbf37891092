-- Proved: `push_step` meets its contract. The invariant: behind what was there are the survivors of the step among the blocks below s.
use Rattle.linear.specs.Solved.{vec}
use Rattle.marks.specs.Marks.{marked}
use Rattle.visits.specs.Inner.{chosen, Extended}
use Rattle.visits.proofs.Visits.push_step.Given as goal

abbrev pub invariant-loop-s : goal.invariant-loop-s
invariant-loop-s l = Extended l.fn.self (chosen (marked l.lost) (vec l.steps) l.g l.s) l.self
