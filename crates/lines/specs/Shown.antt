-- Believed: what is written stands behind what the writer holds; behind the first failure nothing is written.
use Rattle.std.specs.Prelude.{◌≡◌, ℕ, List, Option, IfSome, IsOk, IsErr, OnOk}
use Rattle.std.specs.Io.KnownBytes.{Appends}
use Rattle.lines.specs.declared.show.Output.{Output}

-- what a write of a text makes of an output, `contents` being the bytes that a writer is known to hold, and the text `None` where it is not known:
-- once a write has failed all stays as it was
pub record Shown {W : Type 0} (contents : W → Option (List ℕ)) (text : Option (List ℕ)) (old new : Output W) : Type 0 where
  pub after_failure : IsErr old.written → new ≡ old
  pub otherwise : IsOk old.written → OnOk new.written (IfSome text (Appends (contents old.writer) (contents new.writer)))
