-- Proved: `each` is safe and ends: what is left of the script grows shorter.
use Rattle.std.proofs.Common.{◌≤◌, length}
use Rattle.drill.proofs.each.Given as goal

abbrev pub invariant-loop-rest : goal.invariant-loop-rest
invariant-loop-rest g l = length l.rest ≤ length l.s

abbrev pub decreases-loop-rest : goal.decreases-loop-rest
decreases-loop-rest g l = length l.rest
