-- Proved: `put_item` meets its contract.
use native.Mathlib.Omega.{arith}
use lib.ListN.{length-append}
use Rattle.text.proofs.Puts.{writes_then, placed}
use Rattle.text.proofs.Writer.put_item.Goals as goal

pub put-requires-2 : goal.put-requires-2
put-requires-2 c =
    omega (arith, simp length-append at c.requires, placed c.put.ensures, placed c.put_decimal.ensures)

pub put_decimal-requires-2 : goal.put_decimal-requires-2
put_decimal-requires-2 c =
    omega (arith, simp length-append at c.requires, placed c.put.ensures, placed c.put_decimal.ensures, placed c.put-2.ensures)

pub returns : goal.returns
returns c =
    writes_then (writes_then (writes_then c.put.ensures c.put_decimal.ensures) c.put-2.ensures) c.put_decimal-2.ensures
