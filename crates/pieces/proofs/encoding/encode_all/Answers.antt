-- Proved: `encode_all` meets its contract. The invariant: the redundant blocks below b are made, the data bytes are as they were.
use native.Mathlib.Omega.{arith}
use Rattle.pieces.proofs.Filling.{encoded_more}
use Rattle.pieces.proofs.encoding.encode_all.Goals as goal

pub loop-b-preserved : goal.loop-b-preserved
loop-b-preserved c =
    encoded_more c.requires (omega arith) (omega arith) c.loop-b.invariant c.make.ensures
