-- Believed: document 01, "The layout note": the note is walked by one reader that holds a reference to the note's bytes and a cursor. It is started; it reads
-- the group at its place, any place, and is moved behind it.
use Rattle.std.specs.Prelude.{ℕ, List, length}
use Rattle.std.specs.Borrow.{Bor}
use Rattle.groups.specs.declared.State.{State}
use Rattle.groups.specs.Groups.{if_lt, blank, refused_at}
use Rattle.note.specs.Note.{group_read}
use Rattle.reader.specs.declared.Reader.{Reader}

-- the walk at the place `at`, with nothing read
abbrev pub walk_at : ℕ → State
walk_at at = record { lay = blank; at = at; fault = 0 }

-- the group at the place `at` of the note s, read as a top record: nesting 1, no rows round it, and it may run to the end of the note. Past the end: 1,
-- fewer than 4 bytes remain
unfoldable pub group_from : List ℕ → ℕ → State
group_from s at =
    if_lt (length s) at
    (refused_at 1 at (walk_at at))
    (group_read s (length s) 1 0 (walk_at at))

-- the reader at the first byte of a note
abbrev pub started : Bor (List ℕ) → Reader
started note = record { note = note; at = 0 }

-- the group at the reader's place
abbrev pub group_here : Reader → State
group_here r = group_from r.note.now r.at

-- the reader moved behind the group at its place, or to the offset of the fault
abbrev pub past_group : Reader → Reader
past_group r = record { note = r.note; at = (group_here r).at }
