-- Proved: `combine` meets its contract: block by block.
use Rattle.pieces.proofs.Combining.{combined_none, combined_more}
use Rattle.pieces.proofs.combine.Goals as goal

pub loop-s-init : goal.loop-s-init
loop-s-init c = combined_none _ _ _ _ _

pub loop-s-preserved : goal.loop-s-preserved
loop-s-preserved c = combined_more c.loop-s.invariant c.add_block.ensures
