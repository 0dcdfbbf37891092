-- Proved: `put_steps` meets its contract. The invariant: the steps of the blocks below s are written.
use native.Mathlib.Omega.{arith}
use Rattle.rows.proofs.Groups.{few_groups}
use Rattle.rows.proofs.Stores.{written_more}
use Rattle.visits.proofs.Walks.{step_below}
use Rattle.visits.proofs.Steps.{step_is}
use Rattle.visits.proofs.put_steps.Goals as goal

pub overflow_cast-e : goal.overflow_cast-e
overflow_cast-e c =
    let is = step_is _ _ _ _ _ _ c.home_of-x.ensures c.home_of-y.ensures c.meet.ensures in
    omega (arith, is, step_below _ c.requires c.args.b c.loop-s.s, few_groups _ c.requires)

pub loop-s-preserved : goal.loop-s-preserved
loop-s-preserved c =
    let is = step_is _ _ _ _ _ _ c.home_of-x.ensures c.home_of-y.ensures c.meet.ensures in
    written_more _ _ _ _ (omega arith) is c.loop-s.invariant
