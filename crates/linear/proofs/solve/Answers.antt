-- Proved: `solve` meets its contract: the survivors are taken in, the target is reduced, and what is left of it decides.
use mathlib.Core.Path.{sym, ◌∙◌}
use Rattle.linear.proofs.Answers.{unsolved, solved}
use Rattle.linear.proofs.solve.Goals as goal

pub returns-then-is_some : goal.returns-then-is_some
returns-then-is_some c =
    unsolved (λ k. (c.type_inv.rows k).fits) (λ k. (c.type_inv.target k).fits) c.of_survivors-basis.ensures
    c.vector-v.ensures c.reduce.ensures c.first.result (sym c.is_some.ensures ∙ c.if-is_some.true) c.first.ensures.found

pub returns : goal.returns
returns c =
    rw c.copy_from_slice.ensures.after
    (solved (λ k. (c.type_inv.rows k).fits) (λ k. (c.type_inv.target k).fits) c.of_survivors-basis.ensures
    c.vector-v.ensures c.reduce.ensures c.first.result (sym c.is_some.ensures ∙ c.if-is_some.false) c.first.ensures.found)
