-- Proved: `standing_in` meets its contract, field by field.
use mathlib.Core.Path.{◌≡◌, ap, ◌∙◌}
use borrow.Author.Rules.{rules}
use lib.ListN.{length}
use Rattle.input.specs.Input.{little}
use Rattle.input.proofs.Numbers.{little_eight}
use Rattle.input.proofs.standing_in.Goals as goal

pub returns : goal.returns
returns c =
    let marks = c.copy_from_slice.new.self in
    let eight : length marks ≡ 8 = search rules in
    let lost = c.from_le_bytes.ensures ∙ little_eight marks eight ∙ ap little c.copy_from_slice.ensures.after in
    λ i. record { len = c.word.ensures.0 i; lost = lost i }
