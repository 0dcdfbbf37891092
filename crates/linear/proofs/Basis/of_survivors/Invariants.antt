-- Proved: `of_survivors` meets its contract. The invariant: the survivors at the places below j are taken in.
use Rattle.linear.specs.Slots.{Taken}
use Rattle.linear.proofs.Basis.of_survivors.Given as goal

abbrev pub invariant-loop-j : goal.invariant-loop-j
invariant-loop-j l = Taken l.rows l.order l.basis.slots l.basis.count l.j
