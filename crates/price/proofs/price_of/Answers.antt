-- Proved: `price_of` meets its contract: each test is a need, in the order of the table, and past them stands the sheet.
use native.Mathlib.Omega.{arith}
use borrow.Author.Rules.{rules}
use Rattle.given.proofs.Facts.{given_proper}
use Rattle.price.proofs.Prices.{priced_sheet}
use Rattle.price.proofs.price_of.Goals as goal

pub overflow_cast-k : goal.overflow_cast-k
overflow_cast-k c = omega (arith, (given_proper c.args.l c.if-not-known.ensures).k)

pub overflow_add-n : goal.overflow_add-n
overflow_add-n c = omega (arith, (given_proper c.args.l c.if-not-known.ensures).n)

pub overflow_cast-n : goal.overflow_cast-n
overflow_cast-n c = omega (arith, (given_proper c.args.l c.if-not-known.ensures).n)

pub returns : goal.returns
returns c =
    priced_sheet c.args.l c.args.limits c.if-not-known.ensures (record { storage = search rules; reads = search rules })
    (rw c.in_ok-total.ensures.ok_part at c.read_all.ensures) _ c.sheet.ensures
