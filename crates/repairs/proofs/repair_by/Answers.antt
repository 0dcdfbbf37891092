-- Proved: `repair_by` meets its contract: each test is a need, in the order of the table, and past them all the block is made by its plan.
use mathlib.Core.Path.{◌∙◌, sym}
use native.Mathlib.Omega.{arith}
use Rattle.given.proofs.Facts.{given_proper}
use Rattle.plan.proofs.Fronts.{front_given}
use Rattle.repairs.proofs.Repairing.{repair_makeable, repairs_done}
use Rattle.repairs.proofs.repair_by.Goals as goal

pub overflow_add-l : goal.overflow_add-l
overflow_add-l c = omega (arith, (given_proper c.args.l (front_given c.in_ok-front.ensures)).n)

pub holds-requires : goal.holds-requires
holds-requires c = omega (arith, (given_proper c.args.l (front_given c.in_ok-front.ensures)).n)

pub make-requires : goal.make-requires
make-requires c =
    repair_makeable c.args.l c.args.st c.args.b _ c.in_ok-front.ensures c.if-l-b.false (sym c.holds.ensures ∙ c.if-not-holds.false)
    (rw c.in_ok-coef.ensures.ok_part at c.coefficients.ensures)

pub without-lost-requires : goal.without-lost-requires
without-lost-requires c = omega (arith, (given_proper c.args.l (front_given c.in_ok-front.ensures)).n)

pub returns : goal.returns
returns c =
    repairs_done c.args.l c.args.st c.args.b _ c.in_ok-front.ensures c.if-l-b.false (sym c.holds.ensures ∙ c.if-not-holds.false)
    (rw c.in_ok-coef.ensures.ok_part at c.coefficients.ensures) _ _ c.without-lost.ensures c.make.ensures
