-- Proved: `shape` meets its contract: the number of blocks and the length of the stripe fit.
use Prim.Native.Nat.{◌+◌, ◌≤◌}
use native.Mathlib.Omega.{arith}
use borrow.Author.Rules.{rules}
use Rattle.given.proofs.Facts.{given_proper}
use Rattle.pieces.proofs.Blocks.{under}
use Rattle.shape.proofs.shape.Goals as goal

pub overflow_add-n : goal.overflow_add-n
overflow_add-n c = omega (arith, (given_proper c.args.l c.if-not-known.ensures).n)

pub overflow_mul-n : goal.overflow_mul-n
overflow_mul-n c =
    let few = (given_proper c.args.l c.if-not-known.ensures).n in
    let short : c.args.len ≤ 65536 = search rules in
    omega (arith, short, under c.args.len (c.args.l.k + c.args.l.r) 49 (omega (arith, few)))
