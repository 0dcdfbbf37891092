-- Proved: `coefficients` meets its contract: the elimination is asked for row b over the layout's matrix, in block b's own order.
use native.Mathlib.Omega.{arith}
use Rattle.linear.proofs.Vectors.{row_part}
use Rattle.given.proofs.Facts.{given_proper}
use Rattle.visits.proofs.Answers.{listed_at, survivors}
use Rattle.plan.proofs.Coefs.{survivors_fewer, coefficients_are}
use Rattle.plan.proofs.coefficients.Goals as goal

pub solve_row-requires : goal.solve_row-requires
solve_row-requires c =
    record {
      survivors = survivors_fewer (survivors c.args.l c.requires.given _ _ _ c.visit-v.ensures _ c.matrix.ensures) (omega arith);
      b_bound = omega (arith, (given_proper c.args.l c.requires.given).n, c.requires.b_bound);
    }

pub returns : goal.returns
returns c =
    coefficients_are c.args.l c.requires.given c.args.lost c.args.b c.requires.b_bound _ _ _ _ c.matrix.ensures.rows
    c.visit-v.ensures.count (λ p h. listed_at _ _ c.visit-v.ensures p) (λ i h. row_part _ c.args.b i h) _ c.solve_row.ensures
