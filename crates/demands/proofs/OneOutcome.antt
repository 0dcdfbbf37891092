-- Proved: at most one outcome fits each call of the store: its answer, the standing, and every byte of what was lent to be changed.
use mathlib.Core.Path.{◌≡◌, refl, sym, ap, ◌∙◌}
use mathlib.Core.List.{List, []}
use Prim.Native.Nat.{ℕ}
use native.Mathlib.Omega.{arith}
use denote.Ref.{Bor}
use Rattle.std.specs.Prelude.{Result, Ok, Err}
use Rattle.groups.specs.declared.Layout.{Layout}
use Rattle.note.specs.declared.Refused as Note
use Rattle.plan.specs.declared.Standing.{Standing}
use Rattle.plan.specs.declared.Plan as Listing
use Rattle.plan.specs.declared.Refusal.{Refusal}
use Rattle.plan.specs.declared.Refusal.TheVariants as Why
use Rattle.plan.specs.Refusals.{number}
use Rattle.plan.proofs.Refusals.{number_injective}
use Rattle.plan.proofs.Verdicts.{plans_unique}
use Rattle.price.specs.declared.Limits.{Limits}
use Rattle.price.specs.declared.Price as Sheet
use Rattle.price.proofs.Prices.{priced_unique}
use Rattle.repairs.specs.declared.Unrebuilt.{Unrebuilt}
use Rattle.repairs.specs.declared.Unrebuilt.TheVariants.{Refused, NoPlan}
use Rattle.store.specs.declared.Said.{Said}
use Rattle.store.specs.Answers.{spoken, named}
use Rattle.store.specs.Store.{Encode, Lose, Repair, Rebuild, Plan, Correct, Fetch, View, Price, Read}
use Rattle.demands.proofs.Answers.{positive, outcome_one}
use Rattle.demands.proofs.Does.{encode_does, lose_does, repair_does, rebuild_does, does_one, does_same}
use Rattle.demands.proofs.Outcomes.{corrects_unique, fetches_unique, views_unique}

-- "Every answer is to be pinned down to the byte."
module _ {l : Layout} {st : Standing} where
  module _ {xs ys ys₂ : List ℕ} {r r₂ : Said} {st' st₂ : Standing} where
    pub encode_one : Encode l st xs r st' ys → Encode l st xs r₂ st₂ ys₂ → (r ≡ r₂) × (st' ≡ st₂) × (ys ≡ ys₂)
    encode_one h k = does_one (encode_does h) (encode_does k)

    pub repair_one : {b : ℕ} → Repair l st xs b r st' ys → Repair l st xs b r₂ st₂ ys₂ → (r ≡ r₂) × (st' ≡ st₂) × (ys ≡ ys₂)
    repair_one h k = does_one (repair_does h) (repair_does k)

    pub rebuild_one : Rebuild l st xs r st' ys → Rebuild l st xs r₂ st₂ ys₂ → (r ≡ r₂) × (st' ≡ st₂) × (ys ≡ ys₂)
    rebuild_one h k = does_one (rebuild_does h) (rebuild_does k)

  pub lose_one : {b : ℕ} {r r₂ : Said} {st' st₂ : Standing} → Lose l st b r st' → Lose l st b r₂ st₂ → (r ≡ r₂) × (st' ≡ st₂)
  lose_one h k = does_same (lose_does [] h) (lose_does [] k)

  pub plan_one : {b : ℕ} {p q : Result Listing.Plan Refusal} → Plan l st b p → Plan l st b q → p ≡ q
  plan_one {b} h k = plans_unique l st b h k

  pub correct_one : {xs ys ys₂ d : List ℕ} {i off : ℕ} {r r₂ : Result (Unit {0}) Refusal} → Correct l st xs i off d r ys → Correct l st xs i off d r₂ ys₂
      → (r ≡ r₂) × (ys ≡ ys₂)
  correct_one h k = let x = corrects_unique h k in (x.1, x.0)

  pub fetch_one : {xs old new new₂ : List ℕ} {b : ℕ} {r r₂ : Result (Unit {0}) Refusal} → Fetch l st xs old b r new → Fetch l st xs old b r₂ new₂
      → (r ≡ r₂) × (new ≡ new₂)
  fetch_one h k = let x = fetches_unique h k in (x.1, x.0)

  -- what the part of a view holds, and where it stands
  pub view_one : {stripe spare r r₂ : Bor (List ℕ)} {b : ℕ} → View l st stripe spare b r → View l st stripe spare b r₂
      → (r.now ≡ r₂.now) × (r.ref_ptr ≡ r₂.ref_ptr)
  view_one h k = views_unique h k

pub price_one : {l : Layout} {limits : Limits} {r r₂ : Result Sheet.Price Refusal} → Price l limits r → Price l limits r₂ → r ≡ r₂
price_one h k = priced_unique h k

pub read_one : (note : List ℕ) {r r₂ : Result Layout Note.Refused} → Read note r → Read note r₂ → r ≡ r₂
read_one note {r} {r₂} h k = outcome_one r r₂ (h ∙ sym k)

-- ---- the results that the four calls answer, of which `Encode`, `Lose`, `Repair` and `Rebuild` say the numbers

pub spoken_one : (r r₂ : Result (Unit {0}) Refusal) → spoken r ≡ spoken r₂ → r ≡ r₂
spoken_one r r₂ q = at r r₂ (ap (λ (s : Said). s.number) q)
  where
    at : (r r₂ : Result (Unit {0}) Refusal) → (spoken r).number ≡ (spoken r₂).number → r ≡ r₂
    at (Ok x) (Ok y) e = refl
    at (Ok x) (Err d) e = absurd (omega (arith, positive d))
    at (Err c) (Ok y) e = absurd (omega (arith, positive c))
    at (Err c) (Err d) e = ap Err (number_injective c d e)

-- a rebuild names the block of its 14
pub named_one : (r r₂ : Result (Unit {0}) Unrebuilt) → (r ≡ Err (Refused Why.NoPlan) → ⊥) → (r₂ ≡ Err (Refused Why.NoPlan) → ⊥)
    → named r ≡ named r₂ → r ≡ r₂
named_one r r₂ n m q = at r r₂ n m (ap (λ (s : Said). s.number) q) (ap (λ (s : Said). s.block) q)
  where
    no_14 : (c : Refusal) (r : Result (Unit {0}) Unrebuilt) → r ≡ Err (Refused c) → (r ≡ Err (Refused Why.NoPlan) → ⊥) → number c ≡ 14 → ⊥
    no_14 c r p n e = n (p ∙ ap (λ (d : Refusal). Err (Refused d)) (number_injective c Why.NoPlan e))

    at : (r r₂ : Result (Unit {0}) Unrebuilt) → (r ≡ Err (Refused Why.NoPlan) → ⊥) → (r₂ ≡ Err (Refused Why.NoPlan) → ⊥)
        → (named r).number ≡ (named r₂).number → (named r).block ≡ (named r₂).block → r ≡ r₂
    at (Ok x) (Ok y) n m e f = refl
    at (Ok x) (Err (Refused d)) n m e f = absurd (omega (arith, positive d))
    at (Ok x) (Err (NoPlan b)) n m e f = absurd (omega arith)
    at (Err (Refused c)) (Ok y) n m e f = absurd (omega (arith, positive c))
    at (Err (Refused c)) (Err (Refused d)) n m e f = ap (λ (g : Refusal). Err (Refused g)) (number_injective c d e)
    at (Err (Refused c)) (Err (NoPlan b)) n m e f = absurd (no_14 c _ refl n e)
    at (Err (NoPlan a)) (Ok y) n m e f = absurd (omega arith)
    at (Err (NoPlan a)) (Err (Refused d)) n m e f = absurd (no_14 d _ refl m (sym e))
    at (Err (NoPlan a)) (Err (NoPlan b)) n m e f = ap (λ (g : ℕ). Err (NoPlan g)) f
