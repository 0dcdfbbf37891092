-- Believed: document 01, "When the store says no", "The plan", "The price sheet", "Repairs, corrections, reading": what the exports say in numbers. Each
-- rests on the definition of its call of the store, and says that call's answer: 0 where it is accepted, otherwise the number of its refusal.
use Rattle.std.specs.Prelude.{◌≡◌, List, ℕ, length, Float, Result, Ok, Err}
use Rattle.std.specs.Borrow.{Bor}
use Rattle.std.specs.Float.Ieee as Ieee
use Rattle.std.specs.Float.{binary64}
use Rattle.groups.specs.declared.Layout.{Layout}
use Rattle.groups.specs.Groups as Groups
use Rattle.note.specs.declared.Refused.{Refused}
use Rattle.plan.specs.declared.Standing.{Standing}
use Rattle.plan.specs.declared.Plan as Listing
use Rattle.plan.specs.declared.Refusal.{Refusal}
use Rattle.plan.specs.Listing.{blank}
use Rattle.plan.specs.Refusals.{number}
use Rattle.price.specs.declared.Limits.{Limits}
use Rattle.price.specs.declared.Price as Sheet
use Rattle.stripe.specs.declared.Part.{Part}
use Rattle.stripe.specs.Stripes.{PartOf, Placed, slice_of}
use Rattle.store.specs.Answers.{spoken}
use Rattle.store.specs.Store.{Read, Plan, Correct, Fetch, View, Price}
use Rattle.bridge.specs.declared.NoteSaid.{NoteSaid}
use Rattle.bridge.specs.declared.PlanSaid.{PlanSaid}
use Rattle.bridge.specs.declared.PriceSaid.{PriceSaid}

-- a note's refusal has the offset of the record at fault, and the blank layout; the offset of an accepted note is 0
abbrev pub note_numbers : Result Layout Refused → NoteSaid
note_numbers (Ok l) = record { number = 0; offset = 0; layout = l }
note_numbers (Err e) = record { number = Groups.number e.fault; offset = e.offset; layout = Groups.blank }

-- 0 with the plan, or a refusal's number with the blank plan
abbrev pub plan_numbers : Result Listing.Plan Refusal → PlanSaid
plan_numbers (Ok p) = record { number = 0; plan = p }
plan_numbers (Err e) = record { number = number e; plan = blank }

-- the figure of a case that carries none: 0.0
abbrev pub no_figure : Float
no_figure = Ieee.of_bits binary64 0

-- "fits, with storage and reads; too large, with storage; too many reads, with reads; or a refusal"
abbrev pub price_numbers : Result Sheet.Price Refusal → PriceSaid
price_numbers (Ok (Sheet.TheVariants.Fits storage reads)) = record { verdict = 0; number = 0; storage = storage; reads = reads }
price_numbers (Ok (Sheet.TheVariants.TooLarge storage)) = record { verdict = 1; number = 0; storage = storage; reads = no_figure }
price_numbers (Ok (Sheet.TheVariants.TooManyReads reads)) = record { verdict = 2; number = 0; storage = no_figure; reads = reads }
price_numbers (Err e) = record { verdict = 3; number = number e; storage = no_figure; reads = no_figure }

-- reading a note
pub record ReadSays (note : List ℕ) (r : NoteSaid) : Type 0 where
  pub answer : Result Layout Refused
  pub does : Read note answer
  pub said : r ≡ note_numbers answer

-- a plan
pub record PlanSays (l : Layout) (st : Standing) (b : ℕ) (r : PlanSaid) : Type 0 where
  pub answer : Result Listing.Plan Refusal
  pub does : Plan l st b answer
  pub said : r ≡ plan_numbers answer

-- a correction: the stripe xs becomes ys
pub record CorrectSays (l : Layout) (st : Standing) (xs : List ℕ) (i off : ℕ) (d : List ℕ) (r : ℕ) (ys : List ℕ) : Type 0 where
  pub answer : Result (Unit {0}) Refusal
  pub does : Correct l st xs i off d answer ys
  pub said : r ≡ (spoken answer).number

-- fetching: the spare `old` becomes `new`
pub record FetchSays (l : Layout) (st : Standing) (xs old : List ℕ) (b r : ℕ) (new : List ℕ) : Type 0 where
  pub answer : Result (Unit {0}) Refusal
  pub does : Fetch l st xs old b answer new
  pub said : r ≡ (spoken answer).number

-- a view: p is where the call's part stands, so whatever has those bytes there is that part
pub record ViewSays (l : Layout) (st : Standing) (stripe spare : Bor (List ℕ)) (b : ℕ) (p : Part) : Type 0 where
  pub placed : Placed l st (length stripe.now) (length spare.now) b p
  pub does : (r : Bor (List ℕ)) → PartOf (slice_of stripe spare p.slice) p.from p.len r → View l st stripe spare b r

-- the price sheet
pub record PriceSays (l : Layout) (limits : Limits) (r : PriceSaid) : Type 0 where
  pub answer : Result Sheet.Price Refusal
  pub does : Price l limits answer
  pub said : r ≡ price_numbers answer
