-- Proved: `new` meets its contract: no slot is in use.
use Rattle.linear.proofs.Vectors.{shape_none}
use Rattle.linear.proofs.Basis.new.Goals as goal

pub invariant_of-result : goal.invariant_of-result
invariant_of-result c = record { shape = shape_none }
