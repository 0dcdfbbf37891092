-- Proved: document 01, "A depot pair worked through": every line marked P by a single statement over one list, over what the public calls promise. Whatever
-- a call answers and leaves that meets its promise is what the document says.
use mathlib.Core.Path.{◌≡◌, refl, ◌∙◌, ap}
use mathlib.Core.List.{List, [], ◌∷◌, map}
use Prim.Native.Nat.{ℕ}
use Rattle.std.specs.Prelude.{Result, Ok, IsOk, IfOk}
use Rattle.field.specs.Field.{mul}
use Rattle.field.specs.Worked.{products}
use Rattle.field.proofs.Worked.{products_hold}
use Rattle.groups.specs.declared.Layout.{Layout}
use Rattle.note.specs.declared.Refused.{Refused}
use Rattle.note.specs.Worked.{sample}
use Rattle.plan.specs.declared.Standing.{Standing}
use Rattle.plan.specs.declared.Plan as Listing
use Rattle.plan.specs.declared.Refusal.{Refusal}
use Rattle.plan.proofs.Verdicts.{plans_unique}
use Rattle.worked.specs.Depot.{depot, Asked, told, facts, stripe}
use Rattle.worked.specs.Plans.{Case, cases, standing, answered, Each, end, also}
use Rattle.worked.proofs.Rows.{depot_read, depot_rows}
use Rattle.worked.proofs.Answers.{cases_answered}
use Rattle.shape.specs.Shapes.{after}
use Rattle.store.specs.declared.Said.{Said}
use Rattle.store.specs.Answers.{spoken}
use Rattle.store.specs.Store.{Read, Encode, Plan}
use Rattle.demands.proofs.Answers.{outcome_one}
use Rattle.demands.proofs.DepotStripe.{depot_stripe}

-- ---- "27 x 128 = 1; 84 x 129 = 1; 161 x 130 = 1; 29 x 131 = 1; 2 x 128 = 29; 0 x 200 = 0"

pub line_products : map (λ (p : ℕ × ℕ × ℕ). mul p.0 p.1) products ≡ map (λ (p : ℕ × ℕ × ℕ). p.2) products
line_products = products_hold

-- ---- "note .. k = 4, n = 7. Row 0 is 27, 84, 161, 29; block 5 is 84, 27, 0, 0; block 6 is 0, 0, 29, 161"

-- the layout is the depot pair, of which the other lines speak
pub sample_depot : (r : Result Layout Refused) → Read sample r → r ≡ Ok depot
sample_depot r h = outcome_one r (Ok depot) (h ∙ depot_read)

pub line_note : (r : Result Layout Refused) → Read sample r
    → IsOk r × IfOk r (λ (l : Layout). map (λ (p : Asked × List ℕ). told l p.0) facts ≡ map (λ (p : Asked × List ℕ). p.1) facts)
line_note r h = rw (sample_depot r h) (refl, depot_rows)

-- ---- "L = 1, data 1 2 3 4: stripe 1 2 3 4 57 98 153"

-- whatever stood in the redundant blocks, and whatever was marked lost
module _ (lost p q s : ℕ) (r : Said) (st' : Standing) (ys : List ℕ)
    (h : Encode depot (record { len = 1; lost = lost }) (1 ∷ 2 ∷ 3 ∷ 4 ∷ p ∷ q ∷ s ∷ []) r st' ys) where
  -- the encoding is accepted, and nothing is lost
  pub sample_encoded : (r ≡ record { number = 0; block = 0 }) × (st' ≡ record { len = 1; lost = 0 })
  sample_encoded =
      let x = (depot_stripe lost p q s ys _ h.does).1 in
      (h.said ∙ ap spoken x, h.left ∙ ap (after (record { len = 1; lost = lost })) x)

  pub line_stripe : ys ≡ stripe
  line_stripe = (depot_stripe lost p q s ys _ h.does).0

-- ---- "lost {0}: plan 26 x block 1 + 129 x block 5"; "lost {0, 1}, {0, 1, 2}, {0, 2, 4}: all have plans. Lost {0, 1, 5}: none has. Lost {0, 1, 5, 6}: only 6 has"

each : {A : Type 0} {P Q : A → Type 0} → ((x : A) → P x → Q x) → {xs : List A} → Each P xs → Each Q xs
each f end = end
each f (also {x} p ps) = also (f x p) (each f ps)

-- every case of the two lines: the plan that is listed, or 14
pub line_plans : Each (λ (c : Case). (r : Result Listing.Plan Refusal) → Plan depot (standing c.lost) c.block r → r ≡ answered c.says) cases
line_plans = each (λ c x r h. plans_unique depot (standing c.lost) c.block h x) cases_answered
