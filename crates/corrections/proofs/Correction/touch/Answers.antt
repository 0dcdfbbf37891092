-- Proved: `touch` meets its contract: a block that is lost or does not cover data block i is left, any other gets its multiple at its own place.
use mathlib.Core.Path.{sym, ◌∙◌}
use Rattle.corrections.proofs.Laying.{touched_none}
use Rattle.corrections.proofs.Correction.touch.Goals as goal

pub returns-then-c-eq0 : goal.returns-then-c-eq0
returns-then-c-eq0 c =
    touched_none _ (sym c.holds.ensures ∙ c.if-holds.false) c.if-c-eq0.true
