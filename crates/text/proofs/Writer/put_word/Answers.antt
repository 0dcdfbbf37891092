-- Proved: `put_word` meets its contract: the word is copied in.
use mathlib.Core.Path.{refl}
use Rattle.text.proofs.Puts.{put_copied}
use Rattle.text.proofs.Writer.put_word.Goals as goal

pub returns : goal.returns
returns c = record { put = put_copied _ _ _ _ c.copy_from_slice.ensures.after c.requires; same = refl }
