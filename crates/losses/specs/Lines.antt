-- Believed: document 01, "A depot pair worked through": the lines of the lost blocks.
use Rattle.std.specs.Prelude.{◌≡◌, true, false, List, [], ◌++◌, ℕ, suc, Result, Ok, Err}
use Rattle.groups.specs.declared.Layout.{Layout}
use Rattle.marks.specs.Marks.{marked}
use Rattle.plan.specs.declared.Standing.{Standing}
use Rattle.plan.specs.declared.Plan.{Plan}
use Rattle.plan.specs.declared.Refusal.{Refusal}
use Rattle.plan.specs.Plans.{Plans}
use Rattle.plan.specs.Refusals.{number}
use Rattle.loss.specs.Line.{line_of}

-- the answer to the question for a plan, its refusal by document 01's number
abbrev pub numbered : Result Plan Refusal → Result Plan ℕ
numbered (Ok p) = Ok p
numbered (Err e) = Err (number e)

-- the lines of the lost blocks below b, rising, each planned against the marks as read. A block that is not marked has none
pub data Lines (l : Layout) (st : Standing) : ℕ → List ℕ → Type 0 where
  none : Lines l st 0 []
  present : {b : ℕ} {text : List ℕ} → Lines l st b text → marked st.lost b ≡ false → Lines l st (suc b) text
  lost : {b : ℕ} {text : List ℕ} {r : Result Plan Refusal} → Lines l st b text → marked st.lost b ≡ true → Plans l st b r
      → Lines l st (suc b) (text ++ line_of b (numbered r))
