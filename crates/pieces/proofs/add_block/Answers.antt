-- Proved: `add_block` meets its contract: a block with a coefficient that is not zero stands in the stripe, and its part is added.
use native.Mathlib.Omega.{arith}
use Rattle.pieces.proofs.Combining.{added_none, added}
use Rattle.pieces.proofs.add_block.Goals as goal

pub returns-then-c-eq0 : goal.returns-then-c-eq0
returns-then-c-eq0 c = added_none _ _ _ _ _ _ c.if-c-eq0.true

pub returns : goal.returns
returns c =
    rw c.scaled_add.ensures
    (added _ _ _ _ _ _ (omega (arith, c.requires.sources.inside c.args.s c.requires.s_in_bounds c.if-c-eq0.false)))
