-- Proved: `put_head` meets its contract: the bytes of the header are copied to the place.
use mathlib.Core.Path.{refl, ◌∙◌}
use native.Mathlib.Omega.{arith}
use Rattle.given.proofs.Put.{put_branch, put_leaf}
use Rattle.given.proofs.writer.put_head.Goals as goal

pub returns-then-g-eq0 : goal.returns-then-g-eq0
returns-then-g-eq0 c =
    put_branch _ _ _ _ _ c.if-g-eq0.true (c.copy_from_slice.ensures.after ∙ rw c.to_le_bytes-len.ensures refl) (omega arith) (omega (arith, c.told-buf, c.requires))

pub returns-else-g-eq0 : goal.returns-else-g-eq0
returns-else-g-eq0 c =
    put_leaf _ _ _ _ _ c.if-g-eq0.false c.copy_from_slice-else-g-eq0.ensures.after (omega arith) (omega (arith, c.told-buf, c.requires))
