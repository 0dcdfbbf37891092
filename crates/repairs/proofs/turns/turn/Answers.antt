-- Proved: `turn` meets its contract: a lost block has its plan, is made by it, and its mark is cleared.
use mathlib.Core.Path.{◌∙◌, sym}
use native.Mathlib.Omega.{arith}
use Rattle.given.proofs.Facts.{given_proper}
use Rattle.repairs.proofs.Turning.{turn_makeable, turn_done}
use Rattle.repairs.proofs.turns.turn.Goals as goal

pub holds-requires : goal.holds-requires
holds-requires c = omega (arith, (given_proper c.args.l c.requires.given).n, c.requires.number)

pub make-requires : goal.make-requires
make-requires c =
    turn_makeable c.args.l c.args.st c.args.b _ c.requires (sym c.holds.ensures ∙ c.if-not-holds.false)
    (rw c.unwrap-coef.ensures at c.coefficients.ensures)

pub without-lost-requires : goal.without-lost-requires
without-lost-requires c = omega (arith, (given_proper c.args.l c.requires.given).n, c.requires.number)

pub returns : goal.returns
returns c =
    turn_done c.args.l c.args.st c.args.b _ c.requires (sym c.holds.ensures ∙ c.if-not-holds.false)
    (rw c.unwrap-coef.ensures at c.coefficients.ensures) _ _ c.without-lost.ensures c.make.ensures
