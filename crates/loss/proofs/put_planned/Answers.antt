-- Proved: `put_planned` meets its contract: three digits hold every number.
use Rattle.std.proofs.Common.{ℕ, ◌+◌, ◌≤◌, List, length, arith}
use Rattle.text.specs.Put.{Room}
use Rattle.text.specs.Text.{decimal}
use Rattle.text.proofs.Digits.{decimal_short}
use Rattle.text.proofs.Puts.{placed}
use Rattle.loss.proofs.put_planned.Goals as goal

decimal_room : (x at : ℕ) (out : List ℕ) → at + 3 ≤ length out → Room (decimal x) at out
decimal_room x at out h = omega (arith, h, decimal_short x)

pub put_decimal-requires : goal.put_decimal-requires
put_decimal-requires c = decimal_room _ _ _ (omega (arith, c.requires.reads_bound, placed c.put.ensures))
