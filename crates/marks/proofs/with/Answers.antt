-- Proved: `with` meets its contract: 1 shifted by b is 2 ^ b.
use mathlib.Core.Path.{sym, ◌∙◌}
use Rattle.field.specs.Field.{◌⊕◌}
use Rattle.marks.specs.Marks.{with_mark}
use Rattle.marks.proofs.Bits.{shifted_one}
use Rattle.marks.proofs.with.Goals as goal

pub returns-then-holds : goal.returns-then-holds
unfolding with_mark
returns-then-holds c = let e = sym c.holds.ensures ∙ c.if-holds.true in rw e

pub returns : goal.returns
unfolding with_mark ◌⊕◌
returns c =
    let e = sym c.holds.ensures ∙ c.if-holds.false in
    rw (e, shifted_one c.args.b c.requires)
