-- Proved: `put_layout` meets its contract.
use native.Mathlib.Omega.{arith}
use lib.ListN.{length-append}
use Rattle.text.proofs.Puts.{writes_then, placed}
use Rattle.text.proofs.Writer.put_layout.Goals as goal

pub put_decimal-requires : goal.put_decimal-requires
put_decimal-requires c = omega (arith, simp length-append at c.requires, simp length-append at (placed c.put_numbered.ensures))

pub put-requires : goal.put-requires
put-requires c =
    omega (arith, simp length-append at c.requires, simp length-append at (placed c.put_numbered.ensures), placed c.put_decimal.ensures)

pub returns : goal.returns
returns c = writes_then (writes_then c.put_numbered.ensures c.put_decimal.ensures) c.put.ensures
