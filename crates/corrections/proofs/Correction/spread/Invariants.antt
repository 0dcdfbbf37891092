-- Proved: `spread` meets its contract. The invariant: the redundant blocks below b have theirs.
use Rattle.corrections.specs.Corrections.{Spreads}
use Rattle.corrections.proofs.Correction.spread.Given as goal

abbrev pub invariant-loop-b : goal.invariant-loop-b
invariant-loop-b l = Spreads l.self l.b l.initial.stripe l.stripe
