-- Proved: document 01's worked notes are read as it says, and the sample's layout in full.
use Prim.Native.Nat.{ℕ}
use mathlib.Core.Path.{◌≡◌, refl}
use mathlib.Core.List.{List, ◌∷◌, map}
use lib.ListN.{replicate}
use Rattle.groups.specs.Groups.{if_lt, if_eq, bound_passed, entered, no_group}
use Rattle.note.specs.Note.{head_at, record_at, leaf_at, branch_at, next, group_of, group_read, read_note}
use Rattle.note.specs.Note.Outcome.{layout}
use Rattle.note.specs.Worked.{Told, told, sample, notes}

pub notes_read : map (λ (p : List ℕ × Told). told (read_note p.0)) notes ≡ map (λ (p : List ℕ × Told). p.1) notes
unfolding notes told read_note group_read group_of head_at record_at leaf_at branch_at bound_passed entered if_lt if_eq next
notes_read = refl

pub sample_read : read_note sample ≡
    layout
    (record {
      groups = 3;
      list =
          record { h = 1; d = 0; len = 15; row = 0; first = 0; redundant = 0; size = 3; count = 4 }
          ∷ record { h = 1; d = 2; len = 4; row = 1; first = 0; redundant = 1; size = 1; count = 2 }
          ∷ record { h = 1; d = 2; len = 4; row = 1; first = 2; redundant = 2; size = 1; count = 2 }
          ∷ replicate 13 no_group;
      k = 4;
      r = 3;
    })
unfolding read_note group_read group_of head_at record_at leaf_at branch_at bound_passed entered if_lt if_eq next
sample_read = refl
