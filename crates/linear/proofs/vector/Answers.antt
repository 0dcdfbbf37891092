-- Proved: `vector` meets its contract: the row is copied before 48 zeros, and e set.
use mathlib.Core.Path.{refl}
use Rattle.linear.proofs.Vectors.{filled, zeros_at}
use Rattle.linear.proofs.vector.Goals as goal

pub returns : goal.returns
returns c = rw c.copy_from_slice.ensures.after (filled c.args.row.now _ c.requires.row_len refl (zeros_at 48) c.args.b c.args.e c.requires.b_bound)
