-- Proved: `front` meets its contract: each test is a need, in the order of the table.
use mathlib.Core.Path.{◌∙◌, sym}
use native.Mathlib.Omega.{arith}
use borrow.Author.Rules.{rules}
use Rattle.given.proofs.Facts.{given_proper}
use Rattle.plan.proofs.Fronts.{front_8, front_0}
use Rattle.plan.proofs.front.Goals as goal

pub overflow_add-l : goal.overflow_add-l
overflow_add-l c = omega (arith, (given_proper c.args.l c.if-not-known.ensures).n)

pub none_from-requires : goal.none_from-requires
none_from-requires c = omega (arith, (given_proper c.args.l c.if-not-known.ensures).n)

pub returns-then-not-none_from : goal.returns-then-not-none_from
returns-then-not-none_from c =
    front_8 c.if-not-known.ensures (record { least = search rules; most = search rules }) (sym c.none_from.ensures ∙ c.if-not-none_from.true)

pub returns : goal.returns
returns c =
    front_0 c.if-not-known.ensures (record { least = search rules; most = search rules }) (sym c.none_from.ensures ∙ c.if-not-none_from.false)
