-- Proved: `inv` meets its contract. That of 0 is 0; otherwise it is the power at 255 less the logarithm.
use mathlib.Core.Path.{sym, ap, ◌∙◌}
use native.Mathlib.Omega.{arith}
use Rattle.field.specs.Field.{inv}
use Rattle.field.proofs.Laws.{inv_log, inv_zero}
use Rattle.field.proofs.inv.Goals as goal

pub returns-then-a-eq0 : goal.returns-then-a-eq0
returns-then-a-eq0 c = sym (ap inv c.if-a-eq0.true ∙ inv_zero)

pub returns : goal.returns
returns c =
    c.power_at.ensures
    ∙ inv_log c.args.a c.log_of.result c.ranges.a.fits (omega arith) c.log_of.ensures.small
    (c.log_of.ensures.exact (omega arith))
