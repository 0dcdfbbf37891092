-- Proved: `read_all` meets its contract. The invariant: `total` is the sum of the reads over the data blocks below i, at most 32 for each.
use native.Mathlib.Omega.{arith}
use Rattle.given.proofs.Facts.{given_proper}
use Rattle.price.specs.Sheet.{none}
use Rattle.price.proofs.Totals.{reads_more}
use Rattle.price.proofs.read_all.Goals as goal

pub loop-i-init : goal.loop-i-init
loop-i-init c = (omega arith, none)

pub overflow_add-total : goal.overflow_add-total
overflow_add-total c = omega (arith, (given_proper c.args.l c.requires).k, c.loop-i.invariant.0, c.in_ok-total.ensures.few)

pub loop-i-preserved : goal.loop-i-preserved
loop-i-preserved c =
    let turn = c.loop-i in
    (omega (arith, turn.invariant.0, c.in_ok-total.ensures.few), reads_more turn.invariant.1 c.in_ok-total.ensures)
