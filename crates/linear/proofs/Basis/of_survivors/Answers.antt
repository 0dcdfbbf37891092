-- Proved: `of_survivors` meets its contract. The invariant: the survivors at the places below j are taken in.
use Rattle.linear.proofs.Taking.{taken_none}
use Rattle.linear.proofs.Basis.of_survivors.Goals as goal

pub loop-j-init : goal.loop-j-init
loop-j-init c = let begun = c.new-basis.ensures in rw begun (taken_none _ _ (rw begun at c.new-basis.result.shape))
