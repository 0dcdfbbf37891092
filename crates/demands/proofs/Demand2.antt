-- Proved: demand 2, of every call of the store that it speaks of, by what the calls promise; and how many independent rows the survivors have after a
-- repair and after a loss.
use mathlib.Core.Path.{◌≡◌, refl, sym, ap, ◌∙◌, subst}
use mathlib.Core.Bool.{Bool, true, false}
use mathlib.Core.List.{List, []}
use mathlib.Core.Logic.{◌⊎◌, inl, inr, ◌↔◌}
use Prim.Native.Nat.{ℕ, suc, ◌+◌, ◌*◌, ◌<◌, ◌≤◌}
use native.Mathlib.Omega.{arith}
use lib.ListN.{length, get_or}
use Rattle.std.specs.Prelude.{Result, Ok, Err, IsOk, IfOk}
use Rattle.std.proofs.lemmas.Result.{IfOk-weaker}
use Rattle.field.specs.Field.{mul}
use Rattle.field.proofs.Product.{mul_zero_l}
use Rattle.linear.specs.Sets.{tally}
use Rattle.linear.proofs.Existence.{plan_few}
use Rattle.groups.specs.declared.Layout.{Layout}
use Rattle.given.specs.Given.{Given}
use Rattle.given.proofs.Facts.{given_proper}
use Rattle.marks.specs.Marks.{marked}
use Rattle.rows.specs.Rows.{blocks, row}
use Rattle.rows.proofs.Parts.{row_byte}
use Rattle.calls.specs.Code.{HasPlan, enc}
use Rattle.calls.specs.Calls as Calls
use Rattle.calls.specs.Calls.{by, done, refused, repair, rebuild, Verdict, Step}
use Rattle.calls.specs.Demands.{Holds, Lowest, Fixed, Written, RefusedOrWritten, Independents}
use Rattle.calls.proofs.Needs.{undone, past, done_met}
use Rattle.calls.proofs.Answers.{verdict_unique, sound_step, done_step, rebuild_done}
use Rattle.calls.proofs.Plans.{fixed_iff, plan_none, plan_back}
use Rattle.calls.proofs.Rebuilds.{rebuild_right}
use Rattle.calls.proofs.Demand2 as Codes
use Rattle.plan.specs.declared.Standing.{Standing}
use Rattle.plan.specs.declared.Plan.{Plan}
use Rattle.plan.specs.declared.Refusal.{Refusal}
use Rattle.plan.specs.declared.Refusal.TheVariants.{NoPlan}
use Rattle.plan.specs.Codes.{code_of, InRange, Sound}
use Rattle.plan.specs.Plans.{IsListed}
use Rattle.plan.specs.Refusals.{said}
use Rattle.plan.proofs.Codes.{code_proper}
use Rattle.plan.proofs.Fronts.{sound_met}
use Rattle.plan.proofs.Listings.{Listed, list_of_listed, entry_below, entry_coef, entry_positive, listed_sum}
use Rattle.plan.proofs.Verdicts.{number_of}
use Rattle.shape.specs.Shapes.{Sized, stripe_of}
use Rattle.store.specs.declared.Said.{Said}
use Rattle.store.specs.Store as Store
use Rattle.store.specs.Store.{Encode, Lose, Repair, Rebuild, Correct, Fetch}
use Rattle.demands.specs.Runs.{Between}
use Rattle.demands.specs.Demand2.{Decided, GivesBack}
use Rattle.demands.proofs.Answers.{said_unit, said_ok, said_14}
use Rattle.demands.proofs.Does.{Does, encode_does, lose_does, repair_does, rebuild_does, does_number, does_done, does_alike, named_lowest}
use Rattle.demands.proofs.Outcomes.{unmarked, corrects_stale, fetches_stale}

-- in a sound call a block has a plan exactly if it is a fixed linear combination of surviving blocks
fixed : {l : Layout} {st : Standing} {P : Type 0} → Sound l st P
    → (b : ℕ) → HasPlan (code_of l st.len) (marked st.lost) b ↔ Fixed (code_of l st.len) (marked st.lost) b
fixed {l} {st} sound = fixed_iff (code_of l st.len) (code_proper l sound.given st.len) (marked st.lost)

-- ---- DEMAND 2

module _ {l : Layout} {st st' : Standing} {xs ys : List ℕ} {r : Said} where
  -- "Redundant blocks are those of the basic Pyramid code over the field of 256 elements, as document 01 writes it."
  pub redundant_blocks : Encode l st xs r st' ys → r.number ≡ 0 → (b x : ℕ) → l.k ≤ b → b < blocks l → x < st.len
      → get_or ys (b * st.len + x) 0 ≡ enc (code_of l st.len) (λ i y. get_or xs (i * st.len + y) 0) b x
  redundant_blocks h e b x m n k =
      let d = encode_does h in
      subst (λ (L : ℕ). get_or ys (b * L + x) 0 ≡ enc (code_of l st.len) (λ i y. get_or xs (i * st.len + y) 0) b x) d.leaves.len
      ((does_done d e).effect.made b x m n k)

  -- "In a sound call a lost block is refused exactly if it is no fixed linear combination of surviving blocks. Otherwise the plan's coefficients give that
  -- block back for all data, and that is what gets written.": a repair
  pub demand_2_repair : {b : ℕ} → Sound l st (Sized l st.len (length xs)) → b < blocks l → marked st.lost b ≡ true
      → Repair l st xs b r st' ys
      → Decided (code_of l st.len) (marked st.lost) b (r.number ≡ 14) (r.number ≡ 0)
      (Written (code_of l st.len) (stripe_of st xs) b (λ x. get_or ys (b * st.len + x) 0))
  demand_2_repair {b} sound below lost h =
      at (Codes.demand_2 (code_of l st.len) (code_proper l sound.given st.len) d.answer below lost ((sound_step (sound_met sound)).0 d.leaves.outcome))
    where
      d : Does l st (Sized l st.len (length xs)) xs (unmarked l st) (repair b) r st' ys
      d = repair_does h

      at : RefusedOrWritten (code_of l st.len) (stripe_of st xs) b d.answer (λ x. get_or ys (b * st'.len + x) 0)
          → Decided (code_of l st.len) (marked st.lost) b (r.number ≡ 14) (r.number ≡ 0)
          (Written (code_of l st.len) (stripe_of st xs) b (λ x. get_or ys (b * st.len + x) 0))
      at (inl x) = inl (x.0, does_number d ∙ ap number_of x.1)
      at (inr x) =
          inr (
            x.0,
            does_number d ∙ ap number_of x.1,
            subst (λ (L : ℕ). Written (code_of l st.len) (stripe_of st xs) b (λ y. get_or ys (b * L + y) 0)) d.leaves.len x.2,
          )

-- the same of a fetch, into a spare of L bytes
pub demand_2_fetch : {l : Layout} {st : Standing} {xs old new : List ℕ} {b : ℕ} {r : Result (Unit {0}) Refusal} → Sound l st (Sized l st.len (length xs))
    → b < blocks l → marked st.lost b ≡ true → length old ≡ st.len → Fetch l st xs old b r new
    → Decided (code_of l st.len) (marked st.lost) b (r ≡ Err NoPlan) (r ≡ Ok tt)
    (Written (code_of l st.len) (stripe_of st xs) b (λ x. get_or new x 0))
demand_2_fetch {l} {st} {xs} {old} {new} {b} {r} sound below lost room h = at (Codes.demand_2_fetch (code_of l st.len) (code_proper l sound.given st.len) (said r) below lost room fetched)
  where
    fetched : Calls.Fetch [] (code_of l st.len) (stripe_of st xs) b old (said r) (stripe_of st xs) new
    fetched = record { outcome = (sound_step (sound_met sound)).0 h.fetch.outcome; spare = h.fetch.spare }

    at : RefusedOrWritten (code_of l st.len) (stripe_of st xs) b (said r) (λ x. get_or new x 0)
        → Decided (code_of l st.len) (marked st.lost) b (r ≡ Err NoPlan) (r ≡ Ok tt)
        (Written (code_of l st.len) (stripe_of st xs) b (λ x. get_or new x 0))
    at (inl x) = inl (x.0, said_14 r x.1)
    at (inr x) = inr (x.0, said_unit r (Ok tt) x.1, x.2)

-- ---- a plan

module _ (l : Layout) (given : Given l) (L lost b : ℕ) (below : b < blocks l) (p : Plan) (h : IsListed l L lost b p) where
  few : tally h.coef (blocks l) ≤ 32
  few =
      omega (
        arith,
        (given_proper l given).k,
        plan_few (blocks l) l.k (row l) (row_byte l) _ (λ j k. (code_proper l given L).below (marked lost) b j below k) h.plan,
      )

  entries : Listed h.coef (blocks l) p
  entries = subst (λ (q : Plan). Listed h.coef (blocks l) q) (sym h.listed) (list_of_listed h.coef (blocks l) few)

  no_lost : (a : ℕ) → a < blocks l → marked lost a ≡ true → h.coef a ≡ 0
  no_lost = plan_none (code_of l L) (code_proper l given L) (marked lost) b below h.plan

  gives_back : GivesBack l L lost b p
  gives_back =
      record {
        plan = h;
        none = no_lost;
        present = λ j k. present j k (marked lost (get_or p.block j 0)) refl;
        back = plan_back (code_of l L) h.plan;
        listed = λ D x. plan_back (code_of l L) h.plan D x ∙ sym (listed_sum entries (λ y a. mul y (enc (code_of l L) D a x)) (λ a. mul_zero_l _));
      }
    where
      present : (j : ℕ) → j < p.reads → (y : Bool) → marked lost (get_or p.block j 0) ≡ y → marked lost (get_or p.block j 0) ≡ false
      present j k false e = e
      present j k true e =
          absurd (omega (arith, entry_positive entries j k, entry_coef entries j k, no_lost (get_or p.block j 0) (entry_below entries j k) e))

-- the same of the plan asked for: what is listed gives the block back for all data
pub demand_2_plan : {l : Layout} {st : Standing} {b : ℕ} {r : Result Plan Refusal} → Sound l st (InRange st.len) → b < blocks l → marked st.lost b ≡ true
    → Store.Plan l st b r
    → Decided (code_of l st.len) (marked st.lost) b (r ≡ Err NoPlan) (IsOk r) (IfOk r (GivesBack l st.len st.lost b))
demand_2_plan {l} {st} {b} {r} sound below lost h = at (past lost (past below (past sound.unmarked (past sound.size (past sound.given h.verdict.first)))))
  where
    at : ((HasPlan (code_of l st.len) (marked st.lost) b → ⊥) × (said r ≡ refused (by 14)))
        ⊎ (HasPlan (code_of l st.len) (marked st.lost) b × (said r ≡ done))
        → Decided (code_of l st.len) (marked st.lost) b (r ≡ Err NoPlan) (IsOk r) (IfOk r (GivesBack l st.len st.lost b))
    at (inl x) = inl (λ f. x.0 ((fixed sound b).1 f), said_14 r x.1)
    at (inr x) =
        inr ((fixed sound b).0 x.0, said_ok r x.1, IfOk-weaker r _ _ (gives_back l sound.given st.len st.lost b below) h.plan)

-- ---- a rebuild

module _ {l : Layout} {st st' : Standing} {xs ys : List ℕ} {r : Said} where
  -- a rebuild is accepted exactly if every lost block is a fixed linear combination of surviving blocks
  pub demand_2_rebuild : Sound l st (Sized l st.len (length xs)) → Rebuild l st xs r st' ys
      → (r.number ≡ 0) ↔ ((b : ℕ) → b < blocks l → marked st.lost b ≡ true → Fixed (code_of l st.len) (marked st.lost) b)
  demand_2_rebuild sound h = (
    λ e b m o. (fixed sound b).0 (iff.0 (done_step (does_done d e)).verdict b m o),
    λ f. does_number d ∙ ap number_of (verdict_unique step.verdict (iff.1 (λ b m o. (fixed sound b).1 (f b m o)))),
  )
    where
      d : Does l st (Sized l st.len (length xs)) xs (unmarked l st) rebuild r st' ys
      d = rebuild_does h

      step : Step (code_of l st.len) (stripe_of st xs) rebuild d.answer (stripe_of st' ys)
      step = (sound_step (sound_met sound)).0 d.leaves.outcome

      iff : Verdict [] (code_of l st.len) (marked st.lost) rebuild done
          ↔ ((b : ℕ) → b < blocks l → marked st.lost b ≡ true → HasPlan (code_of l st.len) (marked st.lost) b)
      iff = rebuild_done (code_of l st.len) (marked st.lost)

  -- otherwise it is refused by 14, naming the lowest lost block that is none
  pub demand_2_named : Sound l st (Sized l st.len (length xs)) → Rebuild l st xs r st' ys → (r.number ≡ 0 → ⊥)
      → (r.number ≡ 14) × (r.block < blocks l) × (marked st.lost r.block ≡ true)
      × (Fixed (code_of l st.len) (marked st.lost) r.block → ⊥)
      × ((a : ℕ) → a < r.block → marked st.lost a ≡ true → Fixed (code_of l st.len) (marked st.lost) a)
  demand_2_named sound h n =
      let d = rebuild_does h in
      let v = ((sound_step (sound_met sound)).0 d.leaves.outcome).verdict in
      let x = named_lowest (code_of l st.len) (marked st.lost) d.answer v (λ e. n (does_number d ∙ e)) in
      let y : Lowest (code_of l st.len) (marked st.lost) r.block = rw d.said x.1 in
      (does_number d ∙ x.0, y.below, y.gone, λ f. y.none ((fixed sound r.block).1 f), λ a k o. (fixed sound a).0 (y.least a k o))

  -- an accepted one leaves no block lost, and every block holds what a fresh encoding of the data would give
  pub demand_2_rebuilt : Rebuild l st xs r st' ys → r.number ≡ 0 → (D : ℕ → ℕ → ℕ) → Holds (code_of l st.len) D (stripe_of st xs)
      → ((b : ℕ) → b < blocks l → marked st'.lost b ≡ false)
      × ((b x : ℕ) → b < blocks l → x < st.len → get_or ys (b * st.len + x) 0 ≡ enc (code_of l st.len) D b x)
  demand_2_rebuilt h e D H = (
    right.0,
    λ b x m k. subst (λ (L : ℕ). get_or ys (b * L + x) 0 ≡ enc (code_of l st.len) D b x) d.leaves.len (right.1.block b x m (right.0 b m) k),
  )
    where
      d : Does l st (Sized l st.len (length xs)) xs (unmarked l st) rebuild r st' ys
      d = rebuild_does h

      right : ((b : ℕ) → b < blocks l → marked st'.lost b ≡ false) × Holds (code_of l st.len) D (stripe_of st' ys)
      right =
          let o = does_done d e in
          rebuild_right (code_of l st.len) (code_proper l (done_met (undone _) o.verdict.first).0 st.len) H (done_step o)

-- ---- stale bytes

-- "Bytes standing where a lost block was count for nothing.": over two stripes that differ in such bytes alone a call gives one answer and one standing,
-- and the stripes it leaves differ in such bytes alone
module _ {l : Layout} {st : Standing} {xs xs₂ : List ℕ} (B : Between l st xs xs₂) where
  module _ {st' st₂ : Standing} {ys ys₂ : List ℕ} {r r₂ : Said} where
    pub stale_repair : {b : ℕ} → Repair l st xs b r st' ys → Repair l st xs₂ b r₂ st₂ ys₂ → (r ≡ r₂) × (st' ≡ st₂) × Between l st' ys ys₂
    stale_repair h k = does_alike (repair_does h) (rw B.long at (repair_does k)) (λ e. cc) B

    pub stale_rebuild : Rebuild l st xs r st' ys → Rebuild l st xs₂ r₂ st₂ ys₂ → (r ≡ r₂) × (st' ≡ st₂) × Between l st' ys ys₂
    stale_rebuild h k = does_alike (rebuild_does h) (rw B.long at (rebuild_does k)) (λ e. cc) B

  pub stale_correct : {ys ys₂ d : List ℕ} {i off : ℕ} {r r₂ : Result (Unit {0}) Refusal} → Correct l st xs i off d r ys → Correct l st xs₂ i off d r₂ ys₂
      → (r ≡ r₂) × Between l st ys ys₂
  stale_correct h k =
      let x = corrects_stale B.long B.alike h k in
      (x.0, record { long = k.long ∙ B.long ∙ sym h.long; alike = x.1 })

  -- a fetch leaves one spare
  pub stale_fetch : {old new new₂ : List ℕ} {b : ℕ} {r r₂ : Result (Unit {0}) Refusal} → Fetch l st xs old b r new → Fetch l st xs₂ old b r₂ new₂
      → (r ≡ r₂) × (new ≡ new₂)
  stale_fetch h k = fetches_stale B.long B.alike h k

-- ---- independent rows

module _ {l : Layout} {st st' : Standing} {b m q : ℕ} {r : Said} where
  -- "The number of independent rows among the survivors is the same before and after a repair."
  pub repair_keeps_rank : {xs ys : List ℕ} → Repair l st xs b r st' ys → r.number ≡ 0 → Independents (code_of l st.len) (marked st.lost) m
      → Independents (code_of l st.len) (marked st'.lost) q → m ≡ q
  repair_keeps_rank h e =
      let o = does_done (repair_does h) e in
      Codes.repair_rank (code_of l st.len) (code_proper l (done_met (undone _) o.verdict.first).0 st.len) (done_step o)

  -- "A loss lowers it by at most one."
  pub lose_lowers_rank : Lose l st b r st' → r.number ≡ 0 → Independents (code_of l st.len) (marked st.lost) m
      → Independents (code_of l st.len) (marked st'.lost) q → (q ≤ m) × (m ≤ suc q)
  lose_lowers_rank h e =
      let o = does_done (lose_does [] h) e in
      Codes.lose_rank (code_of l st.len) (code_proper l (done_met (undone _) o.verdict.first).0 st.len) (done_step o)
