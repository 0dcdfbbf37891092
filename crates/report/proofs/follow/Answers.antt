-- Proved: `follow` meets its contract: 7 and 8 are asked in this order, and then the lines are put.
use Prim.Native.Nat.{◌+◌}
use mathlib.Core.Path.{sym, ◌∙◌}
use native.Mathlib.Omega.{arith}
use borrow.Author.Rules.{rules}
use Rattle.plan.proofs.Verdicts.{told_yes, told_no}
use Rattle.text.proofs.Puts.{placed}
use Rattle.report.proofs.Reports.{given_small, layout_short, written_unmet, follow_stray, follow_listed}
use Rattle.report.proofs.follow.Goals as goal

pub overflow_add-n : goal.overflow_add-n
overflow_add-n c = omega (arith, given_small c.args.l c.requires.given)

pub whole-requires : goal.whole-requires
whole-requires c = omega (arith, given_small c.args.l c.requires.given)

pub none_from-requires : goal.none_from-requires
none_from-requires c = omega (arith, given_small c.args.l c.requires.given)

pub overflow_cast-l : goal.overflow_cast-l
overflow_cast-l c = omega (arith, given_small c.args.l c.requires.given)

pub overflow_cast-n : goal.overflow_cast-n
overflow_cast-n c = omega (arith, given_small c.args.l c.requires.given)

pub returns-then-not-whole : goal.returns-then-not-whole
returns-then-not-whole c =
    written_unmet (told_no c.whole.result c.whole.ensures c.if-not-whole.true)
    (rw c.number.ensures at c.refused.ensures)

pub returns-then-not-none_from : goal.returns-then-not-none_from
returns-then-not-none_from c =
    follow_stray c.args.l _ c.standing_in-st.result c.standing_in-st.ensures
    (told_yes c.whole.result c.whole.ensures c.if-not-whole.false)
    (sym c.none_from.ensures ∙ c.if-not-none_from.true)
    (rw c.number-then-not-none_from.ensures at c.refused-then-not-none_from.ensures)

pub put_layout-requires : goal.put_layout-requires
put_layout-requires c = omega (arith, c.requires.in_bounds, layout_short c.args.l.k (c.args.l.k + c.args.l.r))

pub put_lines-requires : goal.put_lines-requires
put_lines-requires c = (
  (given_small c.args.l c.requires.given).1,
  omega (
    arith,
    c.requires.in_bounds,
    (given_small c.args.l c.requires.given).1,
    layout_short c.args.l.k (c.args.l.k + c.args.l.r),
    placed c.put_layout.ensures,
  ),
)

pub returns : goal.returns
returns c =
    let written =
    follow_listed c.args.l _ c.standing_in-st.result c.standing_in-st.ensures
    (told_yes c.whole.result c.whole.ensures c.if-not-whole.false)
    (given_small c.args.l c.requires.given).1 (sym c.none_from.ensures ∙ c.if-not-none_from.false)
    c.put_layout.ensures.put c.put_lines.ensures.written in
    search rules
