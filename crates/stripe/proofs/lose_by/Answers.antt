-- Proved: `lose_by` meets its contract: each test is a need, in the order of the table, and past them all the one mark is set.
use mathlib.Core.Path.{◌∙◌, sym}
use native.Mathlib.Omega.{arith}
use Rattle.given.proofs.Facts.{given_proper}
use Rattle.plan.proofs.Fronts.{front_given}
use Rattle.stripe.proofs.Answers.{loses_done}
use Rattle.stripe.proofs.lose_by.Goals as goal

pub overflow_add-l : goal.overflow_add-l
overflow_add-l c = omega (arith, (given_proper c.args.l (front_given c.in_ok-front.ensures)).n)

pub holds-requires : goal.holds-requires
holds-requires c = omega (arith, (given_proper c.args.l (front_given c.in_ok-front.ensures)).n)

pub with-lost-requires : goal.with-lost-requires
with-lost-requires c = omega (arith, (given_proper c.args.l (front_given c.in_ok-front.ensures)).n)

pub returns : goal.returns
returns c =
    rw c.with-lost.ensures
    (loses_done c.args.l c.args.st c.args.b c.in_ok-front.ensures c.if-l-b.false (sym c.holds.ensures ∙ c.if-holds.false))
