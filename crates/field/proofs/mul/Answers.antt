-- Proved: `mul` meets its contract. With a zero byte the product is 0; otherwise it is the power at the sum of the logarithms.
use mathlib.Core.Path.{sym, ap, ◌∙◌}
use Prim.Native.Nat.{ℕ}
use native.Mathlib.Omega.{arith}
use Rattle.field.specs.Field.{mul}
use Rattle.field.proofs.Product.{mul_zero_l, mul_zero_r}
use Rattle.field.proofs.Laws.{mul_logs}
use Rattle.field.proofs.mul.Goals.{then-a-eq0-via-then-a-eq0, then-a-eq0-via-else-a-eq0+then-b-eq0}
use Rattle.field.proofs.mul.Goals as goal

pub returns-then-a-eq0 : goal.returns-then-a-eq0
returns-then-a-eq0 c =
    elim c.then-a-eq0.branch [
      | then-a-eq0-via-then-a-eq0 w ↦ sym (ap (λ (x : ℕ). mul x c.args.b) w.if-a-eq0.true ∙ mul_zero_l c.args.b)
      | then-a-eq0-via-else-a-eq0+then-b-eq0 w ↦ sym (ap (mul c.args.a) w.if-b-eq0.true ∙ mul_zero_r c.args.a)
    ]

pub returns : goal.returns
returns c =
    c.power_at.ensures
    ∙ mul_logs c.args.a c.args.b c.log_of.result c.log_of-2.result
    (c.log_of.ensures.exact (omega arith)) (c.log_of-2.ensures.exact (omega arith))
