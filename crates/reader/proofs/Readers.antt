-- Proved: the group at a place of a note, and that the group at its start is the one that reading the note judges.
use Prim.Native.Nat.{ℕ, ◌≤◌}
use mathlib.Core.Path.{◌≡◌, refl, sym, ap, ◌∙◌}
use mathlib.Core.List.{List}
use native.Mathlib.Omega.{arith}
use lib.ListN.{length}
use Rattle.groups.specs.declared.Layout.{Layout}
use Rattle.groups.specs.declared.State.{State}
use Rattle.groups.specs.Groups.{blank, at_start}
use Rattle.note.specs.Note.{group_read}
use Rattle.groups.proofs.Picks.{lt_no}
use Rattle.reader.specs.Reader.{group_from}

-- the group read at a place that is not past the end
pub from_is : (s : List ℕ) (at : ℕ) (l : Layout) (w : State) → at ≤ length s → l ≡ blank → w ≡ group_read s (length s) 1 0 (record { lay = l; at = at; fault = 0 }) → w ≡ group_from s at
unfolding group_from
from_is s at l w h e p =
    lt_no _ h (p ∙ ap (λ (x : Layout). group_read s (length s) 1 0 (record { lay = x; at = at; fault = 0 })) e)

-- the group at the start of a note
pub top_is : (s : List ℕ) (w : State) → w ≡ group_from s 0 → w ≡ group_read s (length s) 1 0 at_start
unfolding group_from
top_is s w p = p ∙ sym (lt_no _ (omega arith) refl)
