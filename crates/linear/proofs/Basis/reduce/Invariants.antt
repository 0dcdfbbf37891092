-- Proved: `reduce` meets its contract. The invariant: the slots passed are taken out of v.
use Rattle.linear.specs.Slots.{Reduced}
use Rattle.linear.proofs.Basis.reduce.Given as goal

abbrev pub invariant-loop-slot : goal.invariant-loop-slot
invariant-loop-slot l = Reduced l.initial.v l.self.slots l.slot-index l.v
