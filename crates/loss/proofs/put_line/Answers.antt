-- Proved: `put_line` meets its contract.
use native.Mathlib.Omega.{arith}
use lib.ListN.{length-append}
use Rattle.text.proofs.Puts.{writes_then, placed}
use Rattle.text.proofs.Digits.{decimal_short}
use Rattle.loss.proofs.put_line.Goals as goal

pub put_word-requires : goal.put_word-requires
put_word-requires c = omega (arith, simp length-append at c.requires.room)

pub put_decimal-requires : goal.put_decimal-requires
put_decimal-requires c =
    omega (arith, simp length-append at c.requires.room, placed c.put_word.ensures)

pub put_planned-requires : goal.put_planned-requires
put_planned-requires c = record {
  reads_bound = (
    c.requires.b_bound.1,
    omega (arith, c.requires.b_bound, decimal_short c.args.b, placed c.put_word.ensures, placed c.put_decimal.ensures),
  );
  room = omega (arith, simp length-append at c.requires.room, placed c.put_word.ensures, placed c.put_decimal.ensures);
}

pub put-requires : goal.put-requires
put-requires c =
    omega (
      arith,
      simp length-append at c.requires.room,
      placed c.put_word.ensures,
      placed c.put_decimal.ensures,
      placed c.put_planned.ensures,
    )

pub returns : goal.returns
returns c =
    writes_then (writes_then (writes_then c.put_word.ensures c.put_decimal.ensures) c.put_planned.ensures) c.put.ensures
