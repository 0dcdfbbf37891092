-- Inside: what the test for refusal 6 asks of one note. No public contract names it.
use Rattle.std.specs.Prelude.{ℕ, ◌≡◌, List}
use Rattle.groups.specs.declared.Layout.{Layout}
use Rattle.note.specs.Note.{Bytes, read_note}
use Rattle.note.specs.Note.Outcome.{layout}

-- s is a note that gives the layout l
pub record IsNote (l : Layout) (s : List ℕ) : Type 0 where
  pub bytes : Bytes s
  pub gives : read_note s ≡ layout l
