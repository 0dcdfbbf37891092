-- Proved: `put_steps` meets its contract. The invariant: the steps of the blocks below s are written.
use mathlib.Core.Path.{◌≡◌}
use Prim.Native.Nat.{ℕ, ◌<◌}
use lib.ListN.{get_or}
use Rattle.visits.specs.Visits.{step}
use Rattle.visits.proofs.put_steps.Given as goal

abbrev pub invariant-loop-s : goal.invariant-loop-s
invariant-loop-s l = (p : ℕ) → p < l.s → get_or l.steps p 0 ≡ step l.l l.b p
