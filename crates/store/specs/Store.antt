-- Believed: document 01, "Repairs, corrections, reading", "The plan", "The price sheet", "The layout note": what each call of the store answers and leaves of
-- everything lent, refused or not, one definition to a call, named after it.
use Rattle.std.specs.Prelude.{◌≡◌, List, ℕ, Result}
use Rattle.std.specs.Borrow.{Bor}
use Rattle.groups.specs.declared.Layout.{Layout}
use Rattle.note.specs.declared.Refused.{Refused}
use Rattle.note.specs.Note.{read_note, outcome}
use Rattle.plan.specs.declared.Standing.{Standing}
use Rattle.plan.specs.declared.Plan as Listing
use Rattle.plan.specs.declared.Refusal.{Refusal}
use Rattle.plan.specs.Plans.{Plans}
use Rattle.price.specs.declared.Limits.{Limits}
use Rattle.price.specs.declared.Price as Sheet
use Rattle.price.specs.Sheet.{Priced}
use Rattle.repairs.specs.declared.Unrebuilt.{Unrebuilt}
use Rattle.shape.specs.Shapes.{after}
use Rattle.stripe.specs.Stripes.{Encodes, Loses, Fetches, Views}
use Rattle.correct.specs.Corrects.{Corrects}
use Rattle.repairs.specs.Repairs.{RepairsOne, RebuildsAll}
use Rattle.store.specs.declared.Said.{Said}
use Rattle.store.specs.Answers.{spoken, named}

-- encode: the standing st and the stripe xs become st' and ys
pub record Encode (l : Layout) (st : Standing) (xs : List ℕ) (r : Said) (st' : Standing) (ys : List ℕ) : Type 0 where
  pub answer : Result Standing Refusal
  pub does : Encodes l st xs ys answer
  pub left : st' ≡ after st answer
  pub said : r ≡ spoken answer

-- lose: the standing st becomes st'
pub record Lose (l : Layout) (st : Standing) (b : ℕ) (r : Said) (st' : Standing) : Type 0 where
  pub answer : Result Standing Refusal
  pub does : Loses l st b answer
  pub left : st' ≡ after st answer
  pub said : r ≡ spoken answer

-- repair: the standing st and the stripe xs become st' and ys
pub record Repair (l : Layout) (st : Standing) (xs : List ℕ) (b : ℕ) (r : Said) (st' : Standing) (ys : List ℕ) : Type 0 where
  pub answer : Result Standing Refusal
  pub does : RepairsOne l st b xs ys answer
  pub left : st' ≡ after st answer
  pub said : r ≡ spoken answer

-- rebuild: the standing st and the stripe xs become st' and ys
pub record Rebuild (l : Layout) (st : Standing) (xs : List ℕ) (r : Said) (st' : Standing) (ys : List ℕ) : Type 0 where
  pub answer : Result Standing Unrebuilt
  pub does : RebuildsAll l st xs ys answer
  pub left : st' ≡ after st answer
  pub said : r ≡ named answer

-- plan: nothing is lent
abbrev pub Plan : Layout → Standing → ℕ → Result Listing.Plan Refusal → Type 0
Plan l st b r = Plans l st b r

-- correct: the stripe xs becomes ys
abbrev pub Correct : Layout → Standing → List ℕ → ℕ → ℕ → List ℕ → Result (Unit {0}) Refusal → List ℕ → Type 0
Correct l st xs i off d r ys = Corrects l st i off d xs ys r

-- fetch: the spare `old` becomes `new`, and the stripe xs is lent for reading
abbrev pub Fetch : Layout → Standing → List ℕ → List ℕ → ℕ → Result (Unit {0}) Refusal → List ℕ → Type 0
Fetch l st xs old b r new = Fetches l st b xs old new r

-- view: the part handed back of the stripe or of the spare, both lent for reading
abbrev pub View : Layout → Standing → Bor (List ℕ) → Bor (List ℕ) → ℕ → Bor (List ℕ) → Type 0
View l st stripe spare b r = Views l st b stripe spare r

-- price: nothing is lent
abbrev pub Price : Layout → Limits → Result Sheet.Price Refusal → Type 0
Price l limits r = Priced l limits r

-- read: the note is lent for reading
abbrev pub Read : List ℕ → Result Layout Refused → Type 0
Read note r = outcome r ≡ read_note note
