-- Proved: `scaled_add` meets its contract. The invariant: the first i positions are done, the others as they were.
use mathlib.Core.Path.{ap₂}
use native.Mathlib.Omega.{arith}
use Rattle.field.specs.Field.{◌⊕◌}
use Rattle.field.proofs.Upto.{upto_more}
use Rattle.field.proofs.Scaled.{scaled_upto}
use Rattle.field.proofs.scaled_add.Goals as goal

pub loop-i-preserved : goal.loop-i-preserved
unfolding ◌⊕◌
loop-i-preserved c =
    let turn = c.loop-i in
    upto_more _ (omega arith) (ap₂ ◌⊕◌ (turn.invariant.rest turn.i (omega arith)) c.mul.ensures) turn.invariant

pub returns : goal.returns
returns c = scaled_upto _ _ _ _ c.loop-i.i (omega arith) (omega arith) c.loop-i.invariant
