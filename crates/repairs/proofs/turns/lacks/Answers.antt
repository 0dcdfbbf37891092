-- Proved: `lacks` meets its contract: a lost block lacks a plan exactly if none is found.
use mathlib.Core.Path.{◌∙◌, sym}
use native.Mathlib.Omega.{arith}
use Rattle.given.proofs.Facts.{given_proper}
use Rattle.repairs.proofs.Turning.{lacks_judged}
use Rattle.repairs.proofs.turns.lacks.Goals as goal

pub holds-requires : goal.holds-requires
holds-requires c = omega (arith, (given_proper c.args.l c.requires.given).n, c.requires.b_bound)

pub returns-then-holds : goal.returns-then-holds
returns-then-holds c =
    lacks_judged c.args.l c.args.lost c.args.b c.requires.given c.requires.b_bound (sym c.holds.ensures ∙ c.if-holds.true) _ c.coefficients.ensures _
    c.is_none.ensures
