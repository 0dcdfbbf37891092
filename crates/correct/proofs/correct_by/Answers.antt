-- Proved: `correct_by` meets its contract: each test is a need, in the order of the table, and past them all the difference is laid in by the layout's
-- matrix.
use mathlib.Core.Path.{◌∙◌, sym}
use native.Mathlib.Omega.{arith}
use Rattle.given.proofs.Facts.{given_proper}
use Rattle.plan.proofs.Fronts.{front_given}
use Rattle.correct.proofs.Answers.{correct_able, corrects_done}
use Rattle.correct.proofs.correct_by.Goals as goal

pub holds-requires : goal.holds-requires
holds-requires c = omega (arith, (given_proper c.args.l (front_given c.in_ok-front.ensures)).k)

pub overflow_add-n : goal.overflow_add-n
overflow_add-n c = omega (arith, (given_proper c.args.l (front_given c.in_ok-front.ensures)).n)

pub correct_all-requires : goal.correct_all-requires
correct_all-requires c =
    correct_able c.args.l c.args.st c.args.i c.args.off _ _ c.in_ok-front.ensures c.if-l-i.false (sym c.holds.ensures ∙ c.if-holds.false)
    c.if-not-stays.ensures _ c.matrix.ensures

pub returns : goal.returns
returns c =
    corrects_done c.args.l c.args.st c.args.i c.args.off _ _ c.in_ok-front.ensures c.if-l-i.false (sym c.holds.ensures ∙ c.if-holds.false)
    c.if-not-stays.ensures _ c.matrix.ensures _ c.correct_all.ensures
