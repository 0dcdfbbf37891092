-- Proved: `lowest` meets its contract.
use native.Mathlib.Omega.{arith}
use Rattle.given.proofs.Facts.{given_proper}
use Rattle.repairs.proofs.turns.lowest.Goals as goal

pub overflow_add-b-end : goal.overflow_add-b-end
overflow_add-b-end c = omega (arith, (given_proper c.args.l c.requires).n)
