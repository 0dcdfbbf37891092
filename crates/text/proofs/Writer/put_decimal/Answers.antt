-- Proved: `put_decimal` meets its contract, digit by digit.
use mathlib.Core.Path.{ap}
use native.Mathlib.Omega.{arith}
use lib.ListN.{length}
use Rattle.text.proofs.Puts.{writes_then, placed}
use Rattle.text.proofs.Digits.{decimal_one, decimal_two, decimal_three}
use Rattle.text.proofs.Writer.put_decimal.Goals as goal

pub put-requires : goal.put-requires
put-requires c = omega (arith, ap length (decimal_one c.args.x (omega arith)), c.requires)

pub returns-then-x-lt10 : goal.returns-then-x-lt10
returns-then-x-lt10 c = rw (decimal_one c.args.x (omega arith)) c.put.ensures

pub put-requires-then-x-lt100 : goal.put-requires-then-x-lt100
put-requires-then-x-lt100 c =
    omega (arith, ap length (decimal_two c.args.x (omega arith) (omega arith)), c.requires)

pub put-requires-then-x-lt100-2 : goal.put-requires-then-x-lt100-2
put-requires-then-x-lt100-2 c =
    omega (arith, ap length (decimal_two c.args.x (omega arith) (omega arith)), c.requires, placed c.put-then-x-lt100.ensures)

pub returns-then-x-lt100 : goal.returns-then-x-lt100
returns-then-x-lt100 c =
    rw (decimal_two c.args.x (omega arith) (omega arith)) (writes_then c.put-then-x-lt100.ensures c.put-then-x-lt100-2.ensures)

pub put-requires-2 : goal.put-requires-2
put-requires-2 c = omega (arith, ap length (decimal_three c.args.x (omega arith)), c.requires)

pub put-requires-3 : goal.put-requires-3
put-requires-3 c =
    omega (arith, ap length (decimal_three c.args.x (omega arith)), c.requires, placed c.put-2.ensures)

pub put-requires-4 : goal.put-requires-4
put-requires-4 c =
    omega (arith, ap length (decimal_three c.args.x (omega arith)), c.requires, placed c.put-2.ensures, placed c.put-3.ensures)

pub returns : goal.returns
returns c =
    rw (decimal_three c.args.x (omega arith)) (writes_then c.put-2.ensures (writes_then c.put-3.ensures c.put-4.ensures))
