-- Proved: which facts make the plan that is answered, and that at most one answer fits.
use mathlib.Core.Path.{◌≡◌, refl, sym, ap, ◌∙◌}
use mathlib.Core.Bool.{Bool, true, false}
use mathlib.Core.Logic.{inr}
use mathlib.Core.List.{List}
use Rattle.std.specs.Prelude.{Result, Ok, Err, Some}
use Prim.Native.Nat.{ℕ, ◌<◌, ◌≤◌}
use native.Mathlib.Omega.{arith}
use Rattle.linear.specs.Sets.{tally}
use Rattle.linear.specs.Solved.{vec}
use Rattle.linear.proofs.Sets.{in_and_out}
use Rattle.linear.proofs.Existence.{plan_few}
use Rattle.groups.specs.declared.Layout.{Layout}
use Rattle.given.specs.Given.{Given, Tells}
use Rattle.given.proofs.Facts.{given_proper}
use Rattle.marks.specs.Marks.{marked}
use Rattle.rows.specs.Rows.{blocks, row}
use Rattle.rows.proofs.Parts.{row_byte}
use Rattle.calls.specs.Code.{HasPlan}
use Rattle.calls.specs.Calls as Calls
use Rattle.calls.specs.Calls.{Verdict, repair, done, refused, by, naming}
use Rattle.calls.proofs.Plans.{has_plan_iff, one_plan}
use Rattle.calls.proofs.Needs.{undone, done_met}
use Rattle.calls.proofs.Answers.{verdict_unique, repair_met}
use Rattle.plan.specs.declared.Standing.{Standing}
use Rattle.plan.specs.declared.Plan.{Plan}
use Rattle.plan.specs.declared.Refusal.{Refusal}
use Rattle.plan.specs.Codes.{code_of, InRange, Sound}
use Rattle.plan.specs.Listing.{list_of}
use Rattle.plan.specs.Plans.{Plans}
use Rattle.plan.specs.Refusals.{number}
use Rattle.plan.specs.Inner.{Coefficients}
use Rattle.plan.proofs.Codes.{code_proper}
use Rattle.plan.proofs.Refusals.{number_injective}
use Rattle.plan.proofs.Listings.{list_of_less, list_of_cong, tally_less}

-- ---- a test's answer

pub told_yes : {P : Type 0} (t : Bool) → Tells t P → t ≡ true → P
told_yes true p e = p
told_yes false p e = in_and_out e refl

pub told_no : {P : Type 0} (t : Bool) → Tells t P → t ≡ false → P → ⊥
told_no true p e = in_and_out refl e
told_no false p e = p

-- ---- the plan

module _ (l : Layout) (st : Standing) (b : ℕ) (s : Sound l st (InRange st.len)) (below : b < blocks l) (lost : marked st.lost b ≡ true) where
  pub plans_done : {c : List ℕ} → Coefficients l st.lost b (Some c) → (p : Plan) → p ≡ list_of (vec c) 48 → Plans l st b (Ok p)
  plans_done {c} x p q =
      record {
        verdict = record { first = inr (s.given, inr (s.size, inr (s.unmarked, inr (below, inr (lost, inr (has, refl)))))) };
        plan = record {
          coef = vec c;
          plan = x.plan;
          listed = q ∙ list_of_less (vec c) (blocks l) 48 (given_proper l s.given).n x.past;
        };
      }
    where
      has : HasPlan (code_of l st.len) (marked st.lost) b
      has = (has_plan_iff (code_of l st.len) (code_proper l s.given st.len) (marked st.lost) b below).1 (vec c, x.plan)

-- a plan reads at most 32 blocks
pub reads_few : (l : Layout) → Given l → (lost b : ℕ) → b < blocks l → {c : List ℕ} → Coefficients l lost b (Some c) → tally (vec c) 48 ≤ 32
reads_few l given lost b below {c} x =
    omega (
      arith,
      tally_less (vec c) (blocks l) 48 (given_proper l given).n x.past,
      (given_proper l given).k,
      plan_few (blocks l) l.k (row l) (row_byte l) _ (λ p h. (code_proper l given 1).below (marked lost) b p below h) x.plan,
    )

-- ---- at most one answer

-- the number of an answer
abbrev pub number_of : Calls.Answer → ℕ
number_of done = 0
number_of (refused (by number)) = number
number_of (refused (naming number b)) = number

module _ (l : Layout) (st : Standing) (b : ℕ) where
  -- where both accept, the layout is given, the block is one of its own, and there is one plan
  both_done : {p q : Plan} → Plans l st b (Ok p) → Plans l st b (Ok q) → p ≡ q
  both_done x y =
      x.plan.listed
      ∙ list_of_cong x.plan.coef y.plan.coef (blocks l) (one_plan (code_of l st.len) (code_proper l given st.len) (marked st.lost) b (repair_met x.verdict).0 (λ s k. refl) x.plan.plan y.plan.plan)
      ∙ sym y.plan.listed
    where
      given : Given l
      given = (done_met (undone _) x.verdict.first).0

  -- TWO ANSWERS THAT FIT ARE EQUAL
  pub plans_unique : {p q : Result Plan Refusal} → Plans l st b p → Plans l st b q → p ≡ q
  plans_unique {p = Ok p} {q = Ok q} x y = ap Ok (both_done x y)
  plans_unique {p = Ok p} {q = Err e} x y = absurd (undone _ (verdict_unique x.verdict y.verdict))
  plans_unique {p = Err d} {q = Ok q} x y = absurd (undone _ (sym (verdict_unique x.verdict y.verdict)))
  plans_unique {p = Err d} {q = Err e} x y = ap Err (number_injective d e (ap number_of (verdict_unique x.verdict y.verdict)))
