-- Proved: `lowest` meets its contract. The invariant: every block below b is not lost or has a plan.
use Prim.Native.Nat.{ℕ, ◌<◌}
use Rattle.repairs.specs.Turns.{Mendable}
use Rattle.repairs.proofs.turns.lowest.Given as goal

abbrev pub invariant-loop-b : goal.invariant-loop-b
invariant-loop-b l = (a : ℕ) → a < l.b → Mendable l.l l.lost a
