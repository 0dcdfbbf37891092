-- Proved: `ask` meets its contract: each test is a need, in the order of the table, and past them all a lost block has its plan.
use mathlib.Core.Path.{◌∙◌, sym}
use native.Mathlib.Omega.{arith}
use Rattle.given.proofs.Facts.{given_proper}
use Rattle.plan.proofs.Fronts.{front_given}
use Rattle.stripe.proofs.Fetching.{asks_planned}
use Rattle.stripe.proofs.ask.Goals as goal

pub overflow_add-l : goal.overflow_add-l
overflow_add-l c = omega (arith, (given_proper c.args.l (front_given c.in_ok-front.ensures)).n)

pub holds-requires : goal.holds-requires
holds-requires c = omega (arith, (given_proper c.args.l (front_given c.in_ok-front.ensures)).n)

pub returns : goal.returns
returns c =
    asks_planned c.args.l c.args.st c.args.b c.args.size c.args.room c.in_ok-front.ensures c.if-l-b.false c.if-room-st.false
    (sym c.holds.ensures ∙ c.if-not-holds.false)
    (rw c.in_ok-coef.ensures.ok_part at c.coefficients.ensures)
