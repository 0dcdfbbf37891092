-- Proved: `plan_of` meets its contract: each test is a need, in the order of the table, and the first that is not met is given.
use mathlib.Core.Path.{◌∙◌, sym}
use native.Mathlib.Omega.{arith}
use Rattle.given.proofs.Facts.{given_proper}
use Rattle.plan.proofs.Fronts.{front_given, says_sound}
use Rattle.plan.proofs.Verdicts.{plans_done, reads_few}
use Rattle.plan.proofs.plan_of.Goals as goal

pub overflow_add-n : goal.overflow_add-n
overflow_add-n c = omega (arith, (given_proper c.args.l (front_given c.in_ok-front.ensures)).n)

pub holds-requires : goal.holds-requires
holds-requires c = omega (arith, (given_proper c.args.l (front_given c.in_ok-front.ensures)).n)

pub listed-requires : goal.listed-requires
listed-requires c =
    reads_few c.args.l (front_given c.in_ok-front.ensures) c.args.st.lost c.args.b c.if-n-b.false
    (rw c.in_ok-coef.ensures.ok_part at c.coefficients.ensures)

pub returns : goal.returns
returns c =
    plans_done c.args.l c.args.st c.args.b (says_sound c.in_ok-front.ensures) c.if-n-b.false
    (sym c.holds.ensures ∙ c.if-not-holds.false)
    (rw c.in_ok-coef.ensures.ok_part at c.coefficients.ensures) _ c.listed.ensures
