-- Proved: `group` meets its contract: 1 past the end of the note, else what reading the group gives.
use Rattle.groups.proofs.Picks.{lt_yes}
use Rattle.reader.specs.Reader.{group_from}
use Rattle.reader.proofs.Readers.{from_is}
use Rattle.reader.proofs.Reader.group.Goals as goal

pub returns-then-self : goal.returns-then-self
unfolding group_from
returns-then-self c = lt_yes _ c.if-self.true (rw c.empty.ensures at c.stop.ensures)

pub returns : goal.returns
returns c = from_is _ _ _ _ c.if-self.false c.empty.ensures c.read_group.ensures
