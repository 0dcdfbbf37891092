-- Proved: `without` meets its contract: 1 shifted by b is 2 ^ b.
use mathlib.Core.Path.{sym, ◌∙◌}
use Rattle.field.specs.Field.{◌⊕◌}
use Rattle.marks.specs.Marks.{without_mark}
use Rattle.marks.proofs.Bits.{shifted_one}
use Rattle.marks.proofs.without.Goals as goal

pub returns-then-holds : goal.returns-then-holds
unfolding without_mark ◌⊕◌
returns-then-holds c =
    let e = sym c.holds.ensures ∙ c.if-holds.true in
    rw (e, shifted_one c.args.b c.requires)

pub returns : goal.returns
unfolding without_mark
returns c = let e = sym c.holds.ensures ∙ c.if-holds.false in rw e
