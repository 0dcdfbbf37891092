-- Proved: `read_note` meets its contract. The top record is read as a group of nesting 1.
use mathlib.Core.Path.{◌∙◌}
use Rattle.note.proofs.Steps.{note_is}
use Rattle.note.proofs.read_note.Goals as goal

pub returns : goal.returns
returns c = c.finish.ensures ∙ note_is _ _ (rw c.start.ensures at c.read_group.ensures)
