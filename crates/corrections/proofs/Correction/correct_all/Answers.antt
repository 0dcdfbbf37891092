-- Proved: `correct_all` meets its contract: the difference goes into its data block, then its multiples into the redundant blocks.
use Rattle.corrections.proofs.Laying.{corrected_list}
use Rattle.corrections.proofs.Correction.correct_all.Goals as goal

pub returns : goal.returns
returns c =
    corrected_list c.requires.number c.requires.stays c.lay.ensures.small c.lay.ensures.laid
    c.spread.ensures
