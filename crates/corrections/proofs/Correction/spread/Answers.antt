-- Proved: `spread` meets its contract. The invariant: the redundant blocks below b have theirs.
use native.Mathlib.Omega.{arith}
use Rattle.corrections.proofs.Laying.{spread_more}
use Rattle.corrections.proofs.Correction.spread.Goals as goal

pub loop-b-preserved : goal.loop-b-preserved
loop-b-preserved c =
    spread_more (omega arith) c.requires.stays c.loop-b.invariant c.touch.ensures
