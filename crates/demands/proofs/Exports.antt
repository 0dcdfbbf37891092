-- Proved: at most one outcome fits each export whose answer is told in numbers: the numbers, and every byte of what was lent to be changed; and a refused
-- plan comes with the blank one. The exports that lend a standing promise what the store's own calls promise (proofs/OneOutcome).
use mathlib.Core.Path.{◌≡◌, refl, sym, ap, ◌∙◌}
use mathlib.Core.List.{List}
use Prim.Native.Nat.{ℕ}
use denote.Ref.{Bor}
use Rattle.std.specs.Prelude.{Result, Ok, Err, IsErr}
use Rattle.groups.specs.declared.Layout.{Layout}
use Rattle.calls.proofs.Answers.{verdict_unique}
use Rattle.plan.specs.declared.Standing.{Standing}
use Rattle.plan.specs.declared.Plan.{Plan}
use Rattle.plan.specs.Listing.{blank}
use Rattle.plan.specs.declared.Refusal.{Refusal}
use Rattle.price.specs.declared.Limits.{Limits}
use Rattle.stripe.specs.declared.Part.{Part}
use Rattle.stripe.specs.Stripes.{part_in}
use Rattle.store.specs.Answers.{spoken}
use Rattle.bridge.specs.declared.NoteSaid.{NoteSaid}
use Rattle.bridge.specs.declared.PlanSaid.{PlanSaid}
use Rattle.bridge.specs.declared.PriceSaid.{PriceSaid}
use Rattle.bridge.specs.Exports.{note_numbers, plan_numbers, price_numbers, ReadSays, PlanSays, CorrectSays, FetchSays, ViewSays, PriceSays}
use Rattle.demands.specs.Table.{Answered, plan_asks, number}
use Rattle.demands.proofs.Demand1.{demand_1_plan}
use Rattle.demands.proofs.OneOutcome.{read_one, plan_one, correct_one, fetch_one, price_one}

abbrev told : Result (Unit {0}) Refusal → ℕ
told a = (spoken a).number

pub read_says_one : (note : List ℕ) {r r₂ : NoteSaid} → ReadSays note r → ReadSays note r₂ → r ≡ r₂
read_says_one note h k = h.said ∙ ap note_numbers (read_one note h.does k.does) ∙ sym k.said

pub price_says_one : {l : Layout} {limits : Limits} {r r₂ : PriceSaid} → PriceSays l limits r → PriceSays l limits r₂ → r ≡ r₂
price_says_one h k = h.said ∙ ap price_numbers (price_one h.does k.does) ∙ sym k.said

module _ {l : Layout} {st : Standing} where
  pub plan_says_one : {b : ℕ} {r r₂ : PlanSaid} → PlanSays l st b r → PlanSays l st b r₂ → r ≡ r₂
  plan_says_one h k = h.said ∙ ap plan_numbers (plan_one h.does k.does) ∙ sym k.said

  -- demand 1 of the export: a refusal has a plan's place, and the blank plan stands there
  pub plan_says_answered : {b : ℕ} {r : PlanSaid} → PlanSays l st b r → Answered (plan_asks l st b) r.number (r.plan ≡ blank)
  plan_says_answered {b} {r} h = at h.answer (demand_1_plan h.does) h.said
    where
      at : (a : Result Plan Refusal) → Answered (plan_asks l st b) (number a) (IsErr a) → r ≡ plan_numbers a
          → Answered (plan_asks l st b) r.number (r.plan ≡ blank)
      at (Ok p) A e = rw e (record { gives = A.gives; only = A.only; keeps = λ n. absurd (n refl) })
      at (Err c) A e = rw e (record { gives = A.gives; only = A.only; keeps = λ n. refl })

  pub correct_says_one : {xs ys ys₂ d : List ℕ} {i off r r₂ : ℕ} → CorrectSays l st xs i off d r ys → CorrectSays l st xs i off d r₂ ys₂
      → (r ≡ r₂) × (ys ≡ ys₂)
  correct_says_one h k = let x = correct_one h.does k.does in (h.said ∙ ap told x.0 ∙ sym k.said, x.1)

  pub fetch_says_one : {xs old new new₂ : List ℕ} {b r r₂ : ℕ} → FetchSays l st xs old b r new → FetchSays l st xs old b r₂ new₂
      → (r ≡ r₂) × (new ≡ new₂)
  fetch_says_one h k = let x = fetch_one h.does k.does in (h.said ∙ ap told x.0 ∙ sym k.said, x.1)

  pub view_says_one : {stripe spare : Bor (List ℕ)} {b : ℕ} {p q : Part} → ViewSays l st stripe spare b p → ViewSays l st stripe spare b q → p ≡ q
  view_says_one {b = b} h k =
      h.placed.part ∙ ap (part_in st b) (verdict_unique h.placed.verdict k.placed.verdict) ∙ sym k.placed.part
