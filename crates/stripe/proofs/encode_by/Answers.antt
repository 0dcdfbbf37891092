-- Proved: `encode_by` meets its contract: 6 and 7 are asked first; past them the layout's matrix is what the encoding asks, and every mark is cleared.
use native.Mathlib.Omega.{arith}
use Rattle.given.proofs.Facts.{given_proper}
use Rattle.shape.proofs.Fronts.{shape_given}
use Rattle.stripe.proofs.Answers.{encodable, encodes_done}
use Rattle.stripe.proofs.encode_by.Goals as goal

pub overflow_add-l : goal.overflow_add-l
overflow_add-l c = omega (arith, (given_proper c.args.l (shape_given c.in_ok-shape.ensures)).n)

pub encode_all-requires : goal.encode_all-requires
encode_all-requires c = encodable c.args.l c.args.st c.in_ok-shape.ensures c.matrix.ensures

pub returns : goal.returns
returns c = encodes_done c.args.l c.args.st c.in_ok-shape.ensures c.matrix.ensures c.encode_all.ensures
