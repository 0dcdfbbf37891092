-- Proved: `nonzero` meets its contract.
use mathlib.Core.Path.{◌≡◌, ap, ◌∙◌}
use mathlib.Core.Bool.{not}
use lib.Dec.{eqb}
use borrow.Author.Rules.{rules}
use Rattle.std.specs.List.{count_by}
use Rattle.linear.specs.Sets.{tally}
use Rattle.linear.specs.Solved.{vec}
use Rattle.price.proofs.Totals.{tally_count}
use Rattle.price.proofs.nonzero.Goals as goal

pub returns : goal.returns
returns c =
    let counted : c.count.result ≡ count_by (λ x. not (eqb x 0)) c.args.coef.now = search rules in
    counted ∙ tally_count c.args.coef.now ∙ ap (tally (vec c.args.coef.now)) c.told-coef
