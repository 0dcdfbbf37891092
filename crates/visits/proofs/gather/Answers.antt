-- Proved: `gather` meets its contract. The invariant: what v holds and what the steps below g give make up the whole.
use mathlib.Core.Path.{◌≡◌}
use native.Mathlib.Omega.{arith}
use Rattle.visits.proofs.Pushes.{gathered_room, gathered_more, gathered_all}
use Rattle.visits.proofs.gather.Goals as goal

pub push_step-requires-clause-room : goal.push_step-requires-clause-room
push_step-requires-clause-room c =
    omega (arith, gathered_room _ _ _ _ _ _ c.loop-g-test.true c.loop-g.invariant, c.requires.room)

pub loop-g-preserved : goal.loop-g-preserved
loop-g-preserved c = gathered_more _ _ _ _ _ _ _ c.loop-g-test.true c.push_step.ensures c.loop-g.invariant

pub returns : goal.returns
returns c =
    let end : c.loop-g.g ≡ 0 = omega arith in
    gathered_all _ _ _ _ _ (rw end at c.loop-g.invariant)
