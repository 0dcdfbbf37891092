-- Inside: what the function that asks for a fetch and a view answers. No public contract names what stands here.
use Rattle.std.specs.Prelude.{◌≡◌, true, false, List, ℕ, Option, Some, None, Result, IfOk}
use Rattle.groups.specs.declared.Layout.{Layout}
use Rattle.marks.specs.Marks.{marked}
use Rattle.calls.specs.Calls.{fetch, Verdict}
use Rattle.plan.specs.declared.Refusal.{Refusal}
use Rattle.plan.specs.declared.Standing.{Standing}
use Rattle.plan.specs.Codes.{code_of, front}
use Rattle.plan.specs.Inner.{Coefficients}
use Rattle.plan.specs.Refusals.{said}
use Rattle.shape.specs.Shapes.{Sized}

-- how block b is read: as it stands where it is not lost, by the coefficients of its plan where it is
abbrev pub Way : Layout → Standing → ℕ → Option (List ℕ) → Type 0
Way l st b None = marked st.lost b ≡ false
Way l st b (Some coef) = (marked st.lost b ≡ true) × Coefficients l st.lost b (Some coef)

-- what fetching asks, of a stripe of `size` bytes and a spare of `room` bytes: the first need that is not met, or how the block is read
pub record Asks (l : Layout) (st : Standing) (size room b : ℕ) (r : Result (Option (List ℕ)) Refusal) : Type 0 where
  pub verdict : Verdict (front l st (Sized l st.len size)) (code_of l st.len) (marked st.lost) (fetch b room) (said r)
  pub way : IfOk r (Way l st b)
