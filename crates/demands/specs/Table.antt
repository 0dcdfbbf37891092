-- Believed: document 01, "When the store says no": the table, and which of its rows each call asks. Demand 1: "A bad one is refused by a number from our
-- table, under the conditions written there and no others."
use Rattle.std.specs.Prelude.{◌≡◌, ◌⊎◌, List, [], ◌∷◌, true, false, ℕ, ◌+◌, ◌*◌, ◌<◌, ◌≤◌, Result, Ok, Err}
use Rattle.groups.specs.declared.Layout.{Layout}
use Rattle.given.specs.Given.{Given}
use Rattle.marks.specs.Marks.{marked}
use Rattle.rows.specs.Rows.{blocks}
use Rattle.calls.specs.Code.{HasPlan}
use Rattle.plan.specs.declared.Standing.{Standing}
use Rattle.plan.specs.declared.Refusal.{Refusal}
use Rattle.plan.specs.Codes.{code_of, InRange}
use Rattle.plan.specs.Refusals as Refusals
use Rattle.price.specs.declared.Limits.{Limits}
use Rattle.price.specs.Sheet.{Numbers, alone}

-- a row of the table: a number, and what stands under "Given exactly when"
pub record Row : Type 1 where
  pub no : ℕ
  pub when : Type 0

-- ---- the table

-- "a layout that no accepted note gives"
abbrev pub no_6 : Layout → Row
no_6 l = record { no = 6; when = Given l → ⊥ }

-- "L outside its range, or stripe not n x L bytes"
abbrev pub no_7 : Layout → ℕ → ℕ → Row
no_7 l L size = record { no = 7; when = (InRange L → ⊥) ⊎ (size ≡ blocks l * L → ⊥) }

-- the same, asked of a call that takes no stripe
abbrev pub no_7_alone : ℕ → Row
no_7_alone L = record { no = 7; when = InRange L → ⊥ }

-- "a lost mark at n or above"
abbrev pub no_8 : Layout → ℕ → Row
no_8 l lost = record { no = 8; when = (b : ℕ) × (blocks l ≤ b) × (marked lost b ≡ true) }

-- "block number not below n (a correction: not below k)"
abbrev pub no_9 : ℕ → ℕ → Row
no_9 most b = record { no = 9; when = most ≤ b }

-- "repair of, or plan for, a block not lost"
abbrev pub no_10 : ℕ → ℕ → Row
no_10 lost b = record { no = 10; when = marked lost b ≡ false }

-- "correction or loss of a block already lost"
abbrev pub no_11 : ℕ → ℕ → Row
no_11 lost b = record { no = 11; when = marked lost b ≡ true }

-- "offset plus difference passes L"
abbrev pub no_12 : ℕ → ℕ → ℕ → Row
no_12 L off m = record { no = 12; when = L < off + m }

-- "spare not exactly L bytes"
abbrev pub no_13 : ℕ → ℕ → Row
no_13 L room = record { no = 13; when = room ≡ L → ⊥ }

-- block b is lost and has no plan
abbrev pub Stuck : Layout → ℕ → ℕ → Type 0
Stuck l lost b = (marked lost b ≡ true) × (HasPlan (code_of l 1) (marked lost) b → ⊥)

-- "the lost block to be planned, repaired or read .. has no plan"
abbrev pub no_14 : Layout → ℕ → ℕ → Row
no_14 l lost b = record { no = 14; when = Stuck l lost b }

-- "or in a rebuild any lost block"
abbrev pub no_14_any : Layout → ℕ → Row
no_14_any l lost = record { no = 14; when = (b : ℕ) × (b < blocks l) × Stuck l lost b }

-- "a price limit is not a number"
abbrev pub no_15 : Limits → Row
no_15 limits = record { no = 15; when = Numbers limits → ⊥ }

-- "a data block lost alone has no plan"
abbrev pub no_16 : Layout → Row
no_16 l = record { no = 16; when = (i : ℕ) × (i < l.k) × (HasPlan (code_of l 1) (alone i) i → ⊥) }

-- ---- what each call asks, in rising order: "each asked only of calls that take what it speaks of"

module _ (l : Layout) (st : Standing) where
  -- `size` is the length of the stripe, `room` that of the spare, m that of the difference
  abbrev pub encode_asks : ℕ → List Row
  encode_asks size = no_6 l ∷ no_7 l st.len size ∷ []

  abbrev pub lose_asks : ℕ → List Row
  lose_asks b = no_6 l ∷ no_7_alone st.len ∷ no_8 l st.lost ∷ no_9 (blocks l) b ∷ no_11 st.lost b ∷ []

  abbrev pub plan_asks : ℕ → List Row
  plan_asks b =
      no_6 l ∷ no_7_alone st.len ∷ no_8 l st.lost ∷ no_9 (blocks l) b ∷ no_10 st.lost b ∷ no_14 l st.lost b ∷ []

  abbrev pub repair_asks : ℕ → ℕ → List Row
  repair_asks size b =
      no_6 l ∷ no_7 l st.len size ∷ no_8 l st.lost ∷ no_9 (blocks l) b ∷ no_10 st.lost b ∷ no_14 l st.lost b ∷ []

  abbrev pub rebuild_asks : ℕ → List Row
  rebuild_asks size = no_6 l ∷ no_7 l st.len size ∷ no_8 l st.lost ∷ no_14_any l st.lost ∷ []

  abbrev pub correct_asks : ℕ → ℕ → ℕ → ℕ → List Row
  correct_asks size i off m =
      no_6 l ∷ no_7 l st.len size ∷ no_8 l st.lost ∷ no_9 l.k i ∷ no_11 st.lost i ∷ no_12 st.len off m ∷ []

  -- fetching, and viewing
  abbrev pub fetch_asks : ℕ → ℕ → ℕ → List Row
  fetch_asks size room b =
      no_6 l ∷ no_7 l st.len size ∷ no_8 l st.lost ∷ no_9 (blocks l) b ∷ no_13 st.len room ∷ no_14 l st.lost b ∷ []

abbrev pub price_asks : Layout → Limits → List Row
price_asks l limits = no_6 l ∷ no_15 limits ∷ no_16 l ∷ []

-- ---- what is answered

-- "the lowest applicable number wins"; 0 where none applies
abbrev pub Gives : List Row → ℕ → Type 0
Gives [] number = number ≡ 0
Gives (r ∷ rs) number = (r.when × (number ≡ r.no)) ⊎ ((r.when → ⊥) × Gives rs number)

-- the rows rs are asked, the number is given, and a refusal keeps what was lent
pub record Answered (rs : List Row) (number : ℕ) (kept : Type 0) : Type 0 where
  pub gives : Gives rs number
  -- "under the conditions written there and no others"
  pub only : (m : ℕ) → Gives rs m → m ≡ number
  -- "A refusal changes not one byte of what we lent, nor the list of lost blocks."
  pub keeps : (number ≡ 0 → ⊥) → kept

-- the number that an answer is: 0 for accepted
abbrev pub number : {A : Type 0} → Result A Refusal → ℕ
number (Ok x) = 0
number (Err e) = Refusals.number e
