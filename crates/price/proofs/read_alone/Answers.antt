-- Proved: `read_alone` meets its contract: the plan is asked for with the mark of block i alone.
use native.Mathlib.Omega.{arith}
use Rattle.std.specs.Prelude.{Some}
use Rattle.given.proofs.Facts.{given_proper}
use Rattle.marks.specs.Marks.{with_mark}
use Rattle.plan.specs.Inner.{Coefficients}
use Rattle.price.proofs.Totals.{alone_none, alone_found}
use Rattle.price.proofs.read_alone.Goals as goal

pub with-lost-requires : goal.with-lost-requires
with-lost-requires c = omega (arith, (given_proper c.args.l c.requires.given).k)

pub returns : goal.returns
returns c =
    let found : Coefficients c.args.l (with_mark 0 c.args.i) c.args.i (Some c.in_ok-coef.coef) = rw (← c.with-lost.ensures) c.in_ok-coef.ensures in
    alone_found c.args.l c.requires.given c.args.i c.requires.i_lt_k found _ c.nonzero.ensures

pub returns-in_err-coef : goal.returns-in_err-coef
returns-in_err-coef c =
    rw c.from_residual.ensures
    (alone_none c.args.l c.requires.given c.args.i c.requires.i_lt_k (rw c.with-lost.ensures at c.in_err-coef.ensures))
