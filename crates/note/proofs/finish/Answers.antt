-- Proved: `finish` meets its contract: a fault, bytes after the top record, or the layout.
use native.Mathlib.Omega.{arith}
use Rattle.groups.proofs.Totals.{passed_on}
use Rattle.note.proofs.Steps.{note_stops, note_extra, note_ends}
use Rattle.note.proofs.finish.Goals as goal

pub returns-in_err-w : goal.returns-in_err-w
returns-in_err-w c = rw (passed_on c.from_residual.result _ c.from_residual.ensures.1, c.in_err-w.was) (note_stops _ c.in_err-w.field-0.0)

pub returns-then-w-size : goal.returns-then-w-size
returns-then-w-size c = rw c.in_ok-w.was (note_extra _ c.in_ok-w.w (omega arith))

pub returns : goal.returns
returns c = rw c.in_ok-w.was (note_ends _ c.in_ok-w.w (omega arith))
