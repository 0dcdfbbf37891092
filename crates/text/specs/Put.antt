-- Inside: what the functions that put text promise, and what they ask for.
use Rattle.std.specs.Prelude.{◌≡◌, List, ℕ, ◌+◌, ◌≤◌, length}
use Rattle.std.proofs.lemmas.List.Edits.{sets}
use Rattle.text.specs.declared.Writer.{Writer}

-- there is room for the text at this place
abbrev pub Room : List ℕ → ℕ → List ℕ → Type 0
Room text at out = at + length text ≤ length out

-- the text stands in `new` from `at` on, all else is as in `old`, and r is where the text ends
pub record Put (text : List ℕ) (at : ℕ) (old new : List ℕ) (r : ℕ) : Type 0 where
  pub end : r ≡ at + length text
  pub bytes : new ≡ sets old at text

-- there is room for the text at a writer's place
abbrev pub HasRoom : List ℕ → Writer → Type 0
HasRoom text w = Room text w.at w.out.now

-- the text stands in a writer's buffer, which it still holds, and its place is where the text ends
pub record Writes (text : List ℕ) (old new : Writer) : Type 0 where
  pub put : Put text old.at old.out.now new.out.now new.at
  pub same : new.out.ghost_name ≡ old.out.ghost_name
