-- Believed: document 01, "A depot pair worked through": what the program writes for its input.
use Rattle.std.specs.Prelude.{◌≡◌, false, List, ◌++◌, ℕ, ◌<◌, ◌≤◌, length, take, drop}
use Rattle.note.specs.Note.{length_at, read_note}
use Rattle.note.specs.Note as Note
use Rattle.note.specs.Note.Outcome.{layout, refusal}
use Rattle.groups.specs.declared.Layout.{Layout}
use Rattle.marks.specs.Marks.{marked}
use Rattle.rows.specs.Rows.{blocks}
use Rattle.plan.specs.declared.Standing.{Standing}
use Rattle.text.specs.Text.{refused_text, layout_text}
use Rattle.input.specs.Input.{note_size, standing_in, Whole}
use Rattle.losses.specs.Lines.{Lines}

-- ---- the text

-- the line of the layout, then those of all its lost blocks
pub data Listed (l : Layout) (st : Standing) : List ℕ → Type 0 where
  lines : {text : List ℕ} → Lines l st (blocks l) text → Listed l st (layout_text l.k (blocks l) ++ text)

-- where P holds the text is one of Next; where not, it is the refusal by this number
pub data Asks (P : Type 0) (number : ℕ) (Next : List ℕ → Type 0) : List ℕ → Type 0 where
  met : {text : List ℕ} → P → Next text → Asks P number Next text
  unmet : (P → ⊥) → Asks P number Next (refused_text number)

-- after a note whose layout is l: 7, then 8, a lost mark at n or above
abbrev pub Follows : Layout → List ℕ → List ℕ → Type 0
Follows l rest =
    Asks (Whole (blocks l) rest) 7
    (Asks ((b : ℕ) → blocks l ≤ b → marked (standing_in rest).lost b ≡ false) 8
    (Listed l (standing_in rest)))

-- a note that is refused: its number
abbrev pub Read : Note.Outcome → List ℕ → List ℕ → Type 0
Read (refusal number offset) rest text = text ≡ refused_text number
Read (layout l) rest text = Follows l rest text

-- "A record whose length says more than 254 prints `refused 5` before all else"; fewer than two bytes say no length
abbrev pub Says : List ℕ → List ℕ → Type 0
Says s = Asks (2 ≤ length s → length_at s 0 ≤ 254) 5 (Read (read_note (take (note_size s) s)) (drop (note_size s) s))

-- ---- the call

-- the text stands at the front of the buffer, and behind it what stood there
pub record Printed (input old new : List ℕ) (r : ℕ) : Type 0 where
  pub text : List ℕ
  pub says : Says input text
  pub size : r ≡ length text
  pub fits : r ≤ 12288
  pub bytes : new ≡ text ++ drop (length text) old

-- what `report` answers and leaves of the buffer: 12,288 bytes hold every text; with fewer nothing is written, and the answer is 0, the length of
-- no text
pub record Report (input old new : List ℕ) (r : ℕ) : Type 0 where
  pub small : length old < 12288 → (r ≡ 0) × (new ≡ old)
  pub printed : 12288 ≤ length old → Printed input old new r
