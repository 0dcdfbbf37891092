-- Proved: `restore` meets its contract. The invariant: the blocks below b have had their turns.
use Rattle.repairs.specs.Turns.{Restored}
use Rattle.repairs.proofs.turns.restore.Given as goal

abbrev pub invariant-loop-b : goal.invariant-loop-b
invariant-loop-b l = Restored l.l l.fn.st l.b l.initial.stripe l.stripe l.left
