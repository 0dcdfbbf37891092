-- Proved: `read` meets its contract: the first group is the one that reading the note judges.
use mathlib.Core.Path.{◌∙◌}
use Rattle.note.proofs.Steps.{note_is}
use Rattle.reader.proofs.Readers.{top_is}
use Rattle.reader.proofs.read.Goals as goal

pub returns : goal.returns
returns c = c.finish.ensures ∙ note_is _ _ (top_is _ _ c.top.ensures)
