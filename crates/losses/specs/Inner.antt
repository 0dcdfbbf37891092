-- Inside: what the functions that put lines promise. The contract of `report` names nothing of it.
use Rattle.std.specs.Prelude.{◌≡◌, List, ◌++◌, ℕ, suc, ◌≤◌, length}
use Rattle.text.specs.declared.Writer.{Writer}
use Rattle.text.specs.Put.{Put}
use Rattle.groups.specs.declared.Layout.{Layout}
use Rattle.plan.specs.declared.Standing.{Standing}
use Rattle.losses.specs.Lines.{Lines}

-- a text of which P holds was put, of this many bytes or fewer
pub record Written (P : List ℕ → Type 0) (most at : ℕ) (old new : List ℕ) (r : ℕ) : Type 0 where
  pub text : List ℕ
  pub holds : P text
  pub short : length text ≤ most
  pub put : Put text at old new r

-- the same by a writer, which still holds its buffer
pub record WrittenBy (P : List ℕ → Type 0) (most : ℕ) (old new : Writer) : Type 0 where
  pub written : Written P most old.at old.out.now new.out.now new.at
  pub same : new.out.ghost_name ≡ old.out.ghost_name

-- a text that goes on from the lines of the blocks below b to those of b too
abbrev pub Goes : Layout → Standing → ℕ → List ℕ → Type 0
Goes l st b text = (front : List ℕ) → Lines l st b front → Lines l st (suc b) (front ++ text)
