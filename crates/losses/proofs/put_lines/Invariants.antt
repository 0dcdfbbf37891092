-- Proved: `put_lines` meets its contract. The invariant: the lines of the lost blocks below b are put.
use Prim.Native.Nat.{◌*◌}
use Rattle.losses.specs.Lines.{Lines}
use Rattle.losses.specs.Inner.{WrittenBy}
use Rattle.losses.proofs.put_lines.Given as goal

abbrev pub invariant-loop-b : goal.invariant-loop-b
invariant-loop-b l = WrittenBy (Lines l.l l.st l.b) (232 * l.b) l.initial.w l.w
