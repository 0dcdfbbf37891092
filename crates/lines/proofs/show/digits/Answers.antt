-- Proved: `digits` is safe: what it wrote is text, since it is ASCII.
use Rattle.std.proofs.Common.{refl, Result, Ok, Err, MatchResult, IsOk}
use Rattle.std.proofs.lemmas.Str.{IsUtf8-from_ascii, IsAscii-take}
use Rattle.std.proofs.lemmas.Str.Ascii.{IsAscii-from_all}
use Rattle.lines.proofs.show.digits.Goals as goal

-- a result that cannot be an error is an `Ok`
no_error : {T E : Type 0} (r : Result T E) (P : T → Type 0) (Q : E → Type 0) → MatchResult r P Q → ((e : E) → Q e → ⊥) → IsOk r
no_error (Ok x) P Q m none = refl
no_error (Err e) P Q m none = absurd (none e m)

pub unwrap-requires : goal.unwrap-requires
unwrap-requires c =
    let ascii = IsAscii-take _ _ (IsAscii-from_all _ c.loop-i.invariant) in
    no_error _ _ _ c.from_utf8.ensures.cases (λ e refused. refused.0 (IsUtf8-from_ascii _ ascii))
