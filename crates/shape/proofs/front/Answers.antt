-- Proved: `front` meets its contract: 6 and 7 by `shape`, then the marks.
use mathlib.Core.Path.{◌∙◌, sym}
use native.Mathlib.Omega.{arith}
use Rattle.given.proofs.Facts.{given_proper}
use Rattle.plan.proofs.Fronts.{front_8, front_0}
use Rattle.shape.proofs.Fronts.{shape_given, shape_sized}
use Rattle.shape.proofs.front.Goals as goal

pub overflow_add-l : goal.overflow_add-l
overflow_add-l c = omega (arith, (given_proper c.args.l (shape_given c.in_ok-shape.ensures)).n)

pub none_from-requires : goal.none_from-requires
none_from-requires c = omega (arith, (given_proper c.args.l (shape_given c.in_ok-shape.ensures)).n)

pub returns-then-not-none_from : goal.returns-then-not-none_from
returns-then-not-none_from c =
    front_8 (shape_given c.in_ok-shape.ensures) (shape_sized c.in_ok-shape.ensures) (sym c.none_from.ensures ∙ c.if-not-none_from.true)

pub returns : goal.returns
returns c =
    front_0 (shape_given c.in_ok-shape.ensures) (shape_sized c.in_ok-shape.ensures) (sym c.none_from.ensures ∙ c.if-not-none_from.false)
