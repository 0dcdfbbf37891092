-- Believed: document 01, "When the store says no", 6: "a layout that no accepted note gives".
use Rattle.std.specs.Prelude.{ℕ, ◌/◌, ◌%◌, ◌≡◌, Bool, true, false, List, [], ◌∷◌, ◌++◌, take}
use Rattle.groups.specs.declared.Group.{Group}
use Rattle.groups.specs.declared.Layout.{Layout}
use Rattle.groups.specs.Groups.{if_eq}
use Rattle.note.specs.Note.{Bytes, read_note}
use Rattle.note.specs.Note.Outcome.{layout}

-- some accepted note gives the layout l
pub record Given (l : Layout) : Type 0 where
  pub note : List ℕ
  pub bytes : Bytes note
  pub gives : read_note note ≡ layout l

-- a test's answer tells whether P holds
abbrev pub Tells : Bool → Type 0 → Type 0
Tells true P = P
Tells false P = P → ⊥

-- ---- the note of a layout

-- the bytes of a group up to its members: a leaf's whole record, or a branch's length, kind and h
unfoldable pub head_bytes : Group → List ℕ
head_bytes g =
    if_eq g.d 0
    (g.len % 256 ∷ g.len / 256 % 256 ∷ 2 ∷ 0 ∷ g.h ∷ [])
    (4 ∷ 0 ∷ 1 ∷ 0 ∷ g.h ∷ g.d ∷ [])

-- the headers of groups, one after another
unfoldable pub headers : List Group → List ℕ
headers [] = []
headers (g ∷ gs) = head_bytes g ++ headers gs

-- the headers of the groups that a layout uses
unfoldable pub layout_note : Layout → List ℕ
layout_note l = headers (take l.groups l.list)
