-- Proved: `read_group` and `read_members` end: twice the bytes left falls with each call, and members count one more, since they read a group at the
-- same place.
use Rattle.std.proofs.Common.{◌+◌, ◌*◌, ◌-◌}
use Rattle.note.proofs.reader.+read_group_read_members.Given as goal

abbrev pub decreases-read_group : goal.decreases-read_group
decreases-read_group l = 2 * (l.around.end - l.w.at)

abbrev pub decreases-read_members : goal.decreases-read_members
decreases-read_members l = 2 * (l.around.end - l.w.at) + 1
