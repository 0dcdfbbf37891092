-- Proved: `coef` meets its contract: (128 + j) ⊕ i is 128 + (i ⊕ j).
use mathlib.Core.Path.{sym, ap, ◌∙◌}
use native.Mathlib.Omega.{arith}
use Rattle.field.specs.Field.{◌⊕◌, inv, coef}
use Rattle.field.proofs.Xor.{⊕_high}
use Rattle.field.proofs.coef.Goals as goal

pub returns : goal.returns
unfolding coef ◌⊕◌
returns c =
    c.inv.ensures ∙ ap inv (sym (⊕_high c.args.i c.args.j (omega arith) (omega arith)))
