-- Proved: `meet` meets its contract. The invariant: `at` is the last of the groups below g that hold both.
use mathlib.Core.Path.{◌≡◌}
use Rattle.visits.specs.Visits.{meet_below}
use Rattle.visits.proofs.meet.Given as goal

abbrev pub invariant-loop-g : goal.invariant-loop-g
invariant-loop-g l = l.at ≡ meet_below l.fn.l l.x l.y l.g
