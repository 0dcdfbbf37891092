-- Proved: `combine` meets its contract. The invariant: the blocks below s are added.
use Rattle.pieces.specs.Pieces.{Combined}
use Rattle.pieces.proofs.combine.Given as goal

abbrev pub invariant-loop-s : goal.invariant-loop-s
invariant-loop-s l = Combined l.coef l.stripe l.len l.from l.s l.initial.acc l.acc
