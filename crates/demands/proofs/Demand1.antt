-- Proved: demand 1 for each call of the store. "A bad one is refused by a number from our table, under the conditions written there and no others. A refusal
-- changes not one byte of what we lent, nor the list of lost blocks."
use mathlib.Core.Path.{◌≡◌, refl, sym, ap, ◌∙◌, subst}
use mathlib.Core.Bool.{Bool, true, false}
use mathlib.Core.List.{List, []}
use Prim.Native.Nat.{ℕ, ◌+◌, ◌<◌, ◌≤◌}
use native.Mathlib.Omega.{arith}
use denote.Ref.{Bor}
use lib.ListN.{length, drop, length-drop}
use lib.Seq.{length-take-le}
use Rattle.std.specs.Prelude.{Result, IsErr}
use Rattle.groups.specs.declared.Layout.{Layout}
use Rattle.note.specs.declared.Refused.{Refused}
use Rattle.note.specs.Note.{read_note, outcome}
use Rattle.marks.specs.Marks.{marked}
use Rattle.rows.specs.Rows.{blocks}
use Rattle.calls.specs.Calls as Calls
use Rattle.calls.specs.Calls.{rebuild, by, done, refused, Verdict, Spare}
use Rattle.calls.specs.Demands.{Lowest}
use Rattle.calls.proofs.Needs.{done_met}
use Rattle.plan.specs.declared.Standing.{Standing}
use Rattle.plan.specs.declared.Plan as Listing
use Rattle.plan.specs.declared.Refusal.{Refusal}
use Rattle.plan.specs.Codes.{code_of, front}
use Rattle.plan.specs.Refusals.{said}
use Rattle.plan.proofs.Verdicts.{number_of}
use Rattle.price.specs.declared.Limits.{Limits}
use Rattle.price.specs.declared.Price as Sheet
use Rattle.shape.specs.Shapes.{Sized, stripe_of}
use Rattle.stripe.specs.Stripes.{PartOf, HandedBack, Viewed}
use Rattle.stripe.proofs.Viewing.{inside}
use Rattle.store.specs.declared.Said.{Said}
use Rattle.store.specs.Store.{Encode, Lose, Repair, Rebuild, Plan, Correct, Fetch, View, Price, Read}
use Rattle.demands.specs.Table.{Answered, encode_asks, lose_asks, plan_asks, repair_asks, rebuild_asks, correct_asks, fetch_asks, price_asks, number}
use Rattle.demands.proofs.Answers.{said_number, number_err, saying}
use Rattle.demands.proofs.Does.{encode_does, lose_does, repair_does, rebuild_does, does_number, does_answered, named_lowest}
use Rattle.demands.proofs.Outcomes.{Lent, correct_leaves, leaves_kept, unmarked}
use Rattle.demands.proofs.Rows.{answered, encode_agrees, lose_agrees, plan_agrees, repair_agrees, rebuild_agrees, correct_agrees, fetch_agrees, price_agrees}

-- an answer of one number is no refusal by another
not_by : {a : Calls.Answer} {m k : ℕ} → number_of a ≡ k → (m ≡ k → ⊥) → a ≡ refused (by m) → ⊥
not_by e n q = n (sym (ap number_of q) ∙ e)

-- ---- parts

-- a part that lies inside is as long as it is said to be
part_long : {s r : Bor (List ℕ)} {at m : ℕ} → PartOf s at m r → at + m ≤ length s.now → length r.now ≡ m
part_long {s} {r} {at} {m} p h = ap length p.holds ∙ length-take-le m (drop at s.now) (omega (arith, length-drop at s.now))

-- ---- the calls on a stripe

module _ {l : Layout} {st : Standing} where
  -- ENCODING is refused by 6 or 7 under the table's conditions and no others; a refusal keeps the stripe and the standing
  pub demand_1_encode : {xs ys : List ℕ} {r : Said} {st' : Standing} → Encode l st xs r st' ys
      → Answered (encode_asks l st (length xs)) r.number ((st' ≡ st) × (ys ≡ xs))
  demand_1_encode {xs} h = does_answered (encode_does h) (encode_agrees l st (length xs))

  -- A LOSS by 6, 7, 8, 9 or 11; a refusal keeps the standing
  pub demand_1_lose : {b : ℕ} {r : Said} {st' : Standing} → Lose l st b r st' → Answered (lose_asks l st b) r.number (st' ≡ st)
  demand_1_lose {b} h =
      let x = does_answered (lose_does [] h) (lose_agrees l st b) in record { gives = x.gives; only = x.only; keeps = λ n. (x.keeps n).0 }

  -- A REPAIR by 6, 7, 8, 9, 10 or 14; a refusal keeps the stripe and the standing
  pub demand_1_repair : {xs ys : List ℕ} {b : ℕ} {r : Said} {st' : Standing} → Repair l st xs b r st' ys
      → Answered (repair_asks l st (length xs) b) r.number ((st' ≡ st) × (ys ≡ xs))
  demand_1_repair {xs} {b = b} h = does_answered (repair_does h) (repair_agrees l st (length xs) b)

  -- A CORRECTION by 6, 7, 8, 9, 11 or 12; a refusal keeps the stripe
  pub demand_1_correct : {xs ys : List ℕ} {i off : ℕ} {d : List ℕ} {r : Result (Unit {0}) Refusal} → Correct l st xs i off d r ys
      → Answered (correct_asks l st (length xs) i off (length d)) (number r) (ys ≡ xs)
  demand_1_correct {xs} {ys} {i = i} {off = off} {d = d} {r = r} h =
      answered (correct_agrees l st (length xs) i off d) (said r) h.outcome.verdict.first (said_number r) (at (said r) (correct_leaves h))
    where
      at : (a : Calls.Answer) → Lent l st xs (unmarked l st) (Calls.correct i off d) a st ys → (number_of a ≡ 0 → ⊥) → ys ≡ xs
      at done L n = absurd (n refl)
      at (refused _) L n = (leaves_kept L refl).1

  -- FETCHING by 6, 7, 8, 9, 13 or 14; a refusal keeps the spare
  pub demand_1_fetch : {xs old new : List ℕ} {b : ℕ} {r : Result (Unit {0}) Refusal} → Fetch l st xs old b r new
      → Answered (fetch_asks l st (length xs) (length old) b) (number r) (new ≡ old)
  demand_1_fetch {xs} {old} {new} {b} {r} h =
      answered (fetch_agrees l st (length xs) (length old) b) (said r) h.fetch.outcome.verdict.first (said_number r) (at (said r) h.fetch.spare)
    where
      at : (a : Calls.Answer) → Spare (code_of l st.len) (stripe_of st xs) b a old new → (number_of a ≡ 0 → ⊥) → new ≡ old
      at done s n = absurd (n refl)
      at (refused _) s n = s

  -- VIEWING gives the empty part exactly where fetching would refuse
  pub demand_1_view : {stripe spare : Bor (List ℕ)} {b : ℕ} {r : Bor (List ℕ)} → View l st stripe spare b r
      → (m : ℕ) × Answered (fetch_asks l st (length stripe.now) (length spare.now) b) m (r.now ≡ []) × (m ≡ 0 → (r.now ≡ []) → ⊥)
  demand_1_view {stripe} {spare} {b} {r} h = (
    number_of h.answer,
    answered (fetch_agrees l st (length stripe.now) (length spare.now) b) h.answer h.verdict.first refl (empty h.answer h.part),
    accepted,
  )
    where
      empty : (a : Calls.Answer) → HandedBack st b stripe spare a r → (number_of a ≡ 0 → ⊥) → r.now ≡ []
      empty done p n = absurd (n refl)
      empty (refused _) p n = p.holds

      -- an accepted one holds a block of L bytes
      accepted : number_of h.answer ≡ 0 → r.now ≡ [] → ⊥
      accepted e q =
          let six = done_met (not_by e (omega arith)) h.verdict.first in
          let seven = done_met (not_by e (omega arith)) six.1 in
          let eight = done_met (not_by e (omega arith)) seven.1 in
          let nine = done_met (not_by e (omega arith)) eight.1 in
          let thirteen = done_met (not_by e (omega arith)) nine.1 in
          let fourteen = done_met (not_by e (omega arith)) thirteen.1 in
          let v : Viewed st b stripe spare r = subst (λ (a : Calls.Answer). HandedBack st b stripe spare a r) fourteen.1 h.part in
          let o : length r.now ≡ 0 = ap length q in
          omega (arith, seven.0.range.least, long v seven.0 nine.0 thirteen.0 (marked st.lost b) refl)
        where
          long : Viewed st b stripe spare r → Sized l st.len (length stripe.now) → b < blocks l → length spare.now ≡ st.len
              → (x : Bool) → marked st.lost b ≡ x → length r.now ≡ st.len
          long v z below fits true o = part_long (v.lost o) (omega (arith, fits))
          long v z below fits false o = part_long (v.present o) (inside l st.len b (length stripe.now) z below)

  -- A PLAN is refused by 6, 7, 8, 9, 10 or 14; a refusal has no plan
  pub demand_1_plan : {b : ℕ} {r : Result Listing.Plan Refusal} → Plan l st b r → Answered (plan_asks l st b) (number r) (IsErr r)
  demand_1_plan {b} {r} h = answered (plan_agrees l st b) (said r) h.verdict.first (said_number r) (number_err r)

-- ---- a rebuild

-- after 6, 7 and 8 a rebuild is refused by the lowest lost block without a plan
module _ (l : Layout) (st : Standing) {P : Type 0} where
  lowest : (a : Calls.Answer) → Verdict (front l st P) (code_of l st.len) (marked st.lost) rebuild a → number_of a ≡ 14
      → Lowest (code_of l st.len) (marked st.lost) (saying a).block
  lowest a v e =
      let six = done_met (not_by e (omega arith)) v.first in
      let seven = done_met (not_by e (omega arith)) six.1 in
      let eight = done_met (not_by e (omega arith)) seven.1 in
      (named_lowest (code_of l st.len) (marked st.lost) a (record { first = eight.1 }) (λ z. omega arith)).1

module _ {l : Layout} {st : Standing} where
  -- A REBUILD is refused by 6, 7, 8 or 14, which "names the lowest block without a plan"; a refusal keeps the stripe and the standing
  pub demand_1_rebuild : {xs ys : List ℕ} {r : Said} {st' : Standing} → Rebuild l st xs r st' ys
      → Answered (rebuild_asks l st (length xs)) r.number ((st' ≡ st) × (ys ≡ xs))
      × (r.number ≡ 14 → Lowest (code_of l st.len) (marked st.lost) r.block)
  demand_1_rebuild {xs} h =
      let d = rebuild_does h in (
        does_answered d (rebuild_agrees l st (length xs)),
        λ e. rw d.said (lowest l st d.answer d.leaves.outcome.verdict (sym (does_number d) ∙ e)),
      )

-- ---- price and note

-- A PRICE is refused by 6, 15 or 16; nothing is lent
pub demand_1_price : {l : Layout} {limits : Limits} {r : Result Sheet.Price Refusal} → Price l limits r
    → Answered (price_asks l limits) (number r) (Unit {0})
demand_1_price {l} {limits} {r} h = answered (price_agrees l limits) (said r) h.first (said_number r) (λ n. tt)

-- A NOTE is read as `read_note` reads it, which is document 01's reading order, refusals and all
pub demand_1_read : (note : List ℕ) (r : Result Layout Refused) → Read note r → outcome r ≡ read_note note
demand_1_read note r h = h
