-- Proved: `put_row` meets its contract. The invariant: the first i entries of the row are written.
use Rattle.std.proofs.Common.{◌∙◌, arith}
use Rattle.rows.proofs.Groups.{row_entry, few_blocks, homed, home_fits}
use Rattle.rows.proofs.Stores.{written_more}
use Rattle.rows.proofs.put_row.Goals as goal

pub offset_bounds-l-x : goal.offset_bounds-l-x
offset_bounds-l-x c = omega (arith, home_fits _ c.requires.given _ _ c.home_of-x.ensures)

pub bounds-l-x : goal.bounds-l-x
bounds-l-x c = home_fits _ c.requires.given _ _ c.home_of-x.ensures

pub overflow_add-n : goal.overflow_add-n
overflow_add-n c = omega (arith, few_blocks _ c.requires.given)

pub entry-requires-clause-homed : goal.entry-requires-clause-homed
entry-requires-clause-homed c = homed _ c.requires.given _ _ c.home_of-x.ensures

pub loop-i-preserved : goal.loop-i-preserved
loop-i-preserved c =
    let is = c.entry.ensures ∙ row_entry _ _ _ _ c.home_of-x.ensures in
    written_more _ _ _ _ (omega arith) is c.loop-i.invariant
