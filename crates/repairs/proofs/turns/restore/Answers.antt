-- Proved: `restore` meets its contract.
use native.Mathlib.Omega.{arith}
use Rattle.given.proofs.Facts.{given_proper}
use Rattle.repairs.proofs.Turning.{restored_none, restored_due, restored_next}
use Rattle.repairs.proofs.turns.restore.Goals as goal

pub overflow_add-b-end : goal.overflow_add-b-end
overflow_add-b-end c = omega (arith, (given_proper c.args.l c.requires.given).n)

pub loop-b-init : goal.loop-b-init
loop-b-init c = restored_none _ _ _

pub turn-left-requires : goal.turn-left-requires
turn-left-requires c = restored_due c.args.l c.args.st _ c.requires c.loop-b.invariant c.loop-b-test.true

pub loop-b-preserved : goal.loop-b-preserved
loop-b-preserved c = restored_next c.args.l c.args.st _ c.requires c.loop-b.invariant c.loop-b-test.true c.turn-left.ensures
