-- Believed: document 01, "The layout note", and the refusals 1 to 5 of "When the store says no".
-- A record is a two-byte length, a two-byte kind, then a body; numbers are little-endian, and the length counts kind and body.
-- The note is walked by one reader that holds its place in it. Faults come in reading order; at one record: 4 bytes present (1), length below
-- 2 (3), end (1), kind (2), body (3), then bounds on the running totals (5), then members, whose count is judged when the branch ends.
-- `group_of` and `members_of` call each other, so each counts down a number that is large enough. `group_read` and `members_read` choose it; the
-- equations that a reader expects of these two stand in proofs/Equations, and nothing after them looks at the count.
use Rattle.std.specs.Prelude.{ℕ, zero, suc, ◌+◌, ◌-◌, ◌*◌, ◌<◌, List, Bool, true, false, length, get_or, eqb, Result, Ok, Err}
use Rattle.groups.specs.declared.Layout.{Layout}
use Rattle.groups.specs.declared.Fault.{Fault}
use Rattle.groups.specs.declared.State.{State}
use Rattle.groups.specs.Groups.{number, if_lt, if_eq, blank, at_start, refused_at, entered, closed}
use Rattle.note.specs.declared.reader.Record.{Record}
use Rattle.note.specs.declared.reader.Record.TheVariants as Found
use Rattle.note.specs.declared.Refused.{Refused}
use Rattle.note.specs.declared.Reading.{Reading}

-- ---- one record

-- what stands where a record must start: a fault with its number, a leaf, or a branch with the length that it gives
pub data Head : Type 0 where
  Bad : ℕ → Head
  Leaf : ℕ → ℕ → Head
  Branch : ℕ → ℕ → Head

-- what a reading of a record found
abbrev pub head_of : Result Record Fault → Head
head_of (Ok (Found.Leaf h d)) = Leaf h d
head_of (Ok (Found.Branch h len)) = Branch h len
head_of (Err fault) = Bad (number fault)

-- "numbers are little-endian": the number in the bytes at i and j
abbrev pub word : List ℕ → ℕ → ℕ → ℕ
word s i j = get_or s i 0 + 256 * get_or s j 0

-- the length of the record that starts at `at`: it counts kind and body, so that the record ends at `at` + 2 + length
abbrev pub length_at : List ℕ → ℕ → ℕ
length_at s at = word s at (at + 1)

-- its kind
abbrev pub kind_at : List ℕ → ℕ → ℕ
kind_at s at = word s (at + 2) (at + 3)

-- "Kind 1, leaf group: one byte h, .. and one byte d, its data blocks (1 or more). Its length is 4." 3: leaf length not 4; d = 0
unfoldable pub leaf_at : List ℕ → ℕ → ℕ → Head
leaf_at s at len =
    if_eq len 4
    (if_eq (get_or s (at + 5) 0) 0 (Bad 3)
    (Leaf (get_or s (at + 4) 0) (get_or s (at + 5) 0)))
    (Bad 3)

-- "Kind 2, branch group: one byte h, then two or more records". 3: branch length below 3
unfoldable pub branch_at : List ℕ → ℕ → ℕ → Head
branch_at s at len = if_lt len 3 (Bad 3) (Branch (get_or s (at + 4) 0) len)

-- a record of the given length and kind, where the length may come to `room`: "length below 2 (3), end (1), kind (2), body (3)"
unfoldable pub record_at : List ℕ → ℕ → ℕ → ℕ → ℕ → Head
record_at s at room len kind =
    -- 3: length below 2
    if_lt len 2 (Bad 3)
    -- 1: it runs past the end of its branch or note
    (if_lt room len (Bad 1)
    (if_eq kind 1 (leaf_at s at len)
    (if_eq kind 2 (branch_at s at len)
    -- 2: kind neither 1 nor 2
    (Bad 2))))

-- what stands at `at`, where a record must start, in a branch or note that ends at `end`: "4 bytes present (1)", then the record
unfoldable pub head_at : List ℕ → ℕ → ℕ → Head
head_at s at end =
    -- 1: fewer than 4 bytes remain where a record must start
    if_lt (end - at) 4 (Bad 1)
    (record_at s at (end - at - 2) (length_at s at) (kind_at s at))

-- ---- the reader

-- what is done for each kind of head
abbrev pub by_head : Head → (ℕ → State) → (ℕ → ℕ → State) → (ℕ → ℕ → State) → State
by_head (Bad number) bad leaf branch = bad number
by_head (Leaf h d) bad leaf branch = leaf h d
by_head (Branch h len) bad leaf branch = branch h len

-- go on if the test holds
abbrev pub go_on : Bool → State → (State → State) → State
go_on true v go = go v
go_on false v go = v

-- go on, unless there is a fault
unfoldable pub next : State → (State → State) → State
next v go = go_on (eqb v.fault 0) v go

-- "A branch is read by reading its members, and each member is again read as a group, each reading calling the other in turn." The first
-- number bounds how often: twice the bytes left is enough
unfoldable mutual
  -- the record at the place is read as a group of nesting `level`
  pub group_of : ℕ → List ℕ → ℕ → ℕ → ℕ → State → State
  group_of zero s end level rows w = refused_at 1 w.at w
  group_of (suc f) s end level rows w =
      by_head (head_at s w.at end)
      (λ number. refused_at number w.at w)
      (λ h d. entered level rows h d 4 6 w)
      (λ h len. next (entered level rows h 0 len 5 w)
      (λ v. members_of f s (w.at + 2 + len) (level + 1) (rows + h) w.lay.groups w.at 0 v))

  -- what is left of the branch `own`, which starts at `start` and has had `count` members. Fewer than two are 3, at the offset of the branch
  pub members_of : ℕ → List ℕ → ℕ → ℕ → ℕ → ℕ → ℕ → ℕ → State → State
  members_of zero s end level rows own start count w = refused_at 1 w.at w
  members_of (suc f) s end level rows own start count w =
      if_eq w.at end
      (if_lt count 2 (refused_at 3 start w) (closed own w))
      (next (group_of f s end level rows w)
      (λ v. members_of f s end level rows own start (count + 1) v))

-- the reading of a group
unfoldable pub group_read : List ℕ → ℕ → ℕ → ℕ → State → State
group_read s end level rows w = group_of (2 * (end - w.at) + 1) s end level rows w

-- the reading of what is left of a branch
unfoldable pub members_read : List ℕ → ℕ → ℕ → ℕ → ℕ → ℕ → ℕ → State → State
members_read s end level rows own start count w = members_of (2 * (end - w.at) + 2) s end level rows own start count w

-- ---- the note

-- a note is a list of bytes
pub record Bytes (s : List ℕ) : Type 0 where
  pub below : (i : ℕ) → get_or s i 0 < 256

-- what reading a note comes to: its layout, or a refusal with its number and offset
pub data Outcome : Type 0 where
  layout : Layout → Outcome
  refusal : ℕ → ℕ → Outcome

-- the end of the reading: a fault; bytes after the top record (4), at the first of them; or the layout
abbrev pub finish : ℕ → State → Outcome
finish size w =
    if_eq w.fault 0
    (if_lt w.at size (refusal 4 w.at) (layout w.lay))
    (refusal w.fault w.at)

-- what reading the note s comes to: its top record is a group of nesting 1, with no rows round it, and ends where the note ends
unfoldable pub read_note : List ℕ → Outcome
read_note s = finish (length s) (group_read s (length s) 1 0 at_start)

-- what an answer of a reading says: the layout, or document 01's number of the fault, with its offset
abbrev pub outcome : Result Layout Refused → Outcome
outcome (Ok l) = layout l
outcome (Err e) = refusal (number e.fault) e.offset

-- the reading of each outcome: accepted, with the layout; or document 01's number and offset, with the blank layout
abbrev pub reading : Outcome → Reading
reading (layout l) = record { answer = Ok tt; layout = l }
reading (refusal number offset) = record { answer = Err (number, offset); layout = blank }
