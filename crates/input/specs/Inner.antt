-- Inside: what `note_end` answers. The contract of `report` does not name it.
use Rattle.std.specs.Prelude.{◌≡◌, List, ℕ, ◌≤◌, length, take, drop}
use Rattle.input.specs.Input.{note_size}

-- the part of the input before r is what the note reader gets
pub record Parted (s : List ℕ) (r : ℕ) : Type 0 where
  pub note : take r s ≡ take (note_size s) s
  pub rest : drop r s ≡ drop (note_size s) s
  pub within : r ≤ length s
