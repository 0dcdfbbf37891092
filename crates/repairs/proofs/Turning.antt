-- Proved: judging the lost blocks one by one finds the lowest that has no plan; where every one has, each has one again in its turn; and what a rebuild
-- answers and leaves is what `calls` asks.
use mathlib.Core.Path.{◌≡◌, refl, sym, ap, ◌∙◌}
use mathlib.Core.Bool.{Bool, true, false, not}
use mathlib.Core.List.{List, ◌++◌}
use mathlib.Core.Logic.{inl, inr}
use Prim.Native.Nat.{ℕ, zero, suc, ◌+◌, ◌<◌}
use native.Mathlib.Numerals.{add-one}
use native.Mathlib.Omega.{arith}
use Rattle.std.specs.Prelude.{Option, Some, None, is_some, Ok, Err}
use lib.ListN.{length}
use Rattle.linear.proofs.Sets.{in_and_out}
use Rattle.groups.specs.declared.Layout.{Layout}
use Rattle.given.specs.Given.{Given}
use Rattle.marks.specs.Marks.{marked, without_mark}
use Rattle.rows.specs.Rows.{blocks}
use Rattle.calls.specs.Code.{HasPlan}
use Rattle.calls.specs.Calls as Calls
use Rattle.calls.specs.Calls.{First, ◌unless◌, by, naming, done, refused, each, needs, stripe, rebuild, Repairs, start, pass, next}
use Rattle.calls.specs.Demands.{Lowest}
use Rattle.calls.proofs.Answers.{repair_met, rebuild_done, rebuild_named}
use Rattle.calls.proofs.Rebuilds.{repairs_above, repairs_accepted}
use Rattle.plan.specs.declared.Standing.{Standing}
use Rattle.plan.specs.declared.Refusal.TheVariants as Why
use Rattle.plan.specs.Codes.{code_of, front}
use Rattle.plan.specs.Inner.{Coefficients}
use Rattle.plan.proofs.Codes.{code_proper}
use Rattle.pieces.specs.Pieces.{Makeable, Made}
use Rattle.repairs.specs.declared.Unrebuilt.TheVariants.{Refused, NoPlan}
use Rattle.plan.specs.Front.{FrontSays}
use Rattle.repairs.specs.Turns.{Lacks, LowestIs, Due, Turned, Ready, Restored}
use Rattle.shape.specs.Shapes.{Sized, stripe_of}
use Rattle.repairs.specs.Repairs.{RebuildsAll}
use Rattle.calls.proofs.Needs.{undone}
use Rattle.plan.proofs.Fronts.{front_passed}
use Rattle.plan.proofs.Verdicts.{number_of}
use Rattle.shape.proofs.Plans.{has_plan}
use Rattle.repairs.proofs.Repairing.{mendable, mended}

-- ---- judging

module _ (l : Layout) (lost b : ℕ) where
  -- a lost block lacks a plan exactly if none is found
  pub lacks_judged : Given l → b < blocks l → marked lost b ≡ true → (r : Option (List ℕ)) → Coefficients l lost b r
      → (t : Bool) → is_some r ≡ not t → Lacks l lost b t
  lacks_judged given below gone None x true e = record { no = λ h. in_and_out refl h; yes = λ _ f. x.none (f gone) }
  lacks_judged given below gone (Some coef) x false e = record { no = λ _ _. has_plan l given 1 lost b x below; yes = λ h. in_and_out h refl }
  lacks_judged given below gone None x false e = in_and_out e refl
  lacks_judged given below gone (Some coef) x true e = in_and_out refl e

-- ---- a block's turn

module _ (l : Layout) (st : Standing) (b : ℕ) (xs : List ℕ) (d : Due l st b xs) (gone : marked st.lost b ≡ true) {coef : List ℕ}
    (x : Coefficients l st.lost b (Some coef)) where
  pub turn_makeable : Makeable xs coef st.len b
  turn_makeable = mendable l d.given st.len st.lost b x xs d.number d.short d.whole

  pub turn_done : (ys : List ℕ) (m : ℕ) → m ≡ without_mark st.lost b → Made coef st.len b xs ys
      → Turned l st b xs ys (record { len = st.len; lost = m })
  turn_done ys m q M =
      record {
        len = refl;
        long = M.long;
        repaired = λ _. mended l d.given st.len st.lost b x xs ys m q M;
        bytes = λ h. in_and_out gone h;
        marks = λ h. in_and_out gone h;
      }

-- ---- the turns one after another

module _ (l : Layout) (st : Standing) (xs : List ℕ) where
  pub restored_none : Restored l st 0 xs xs st
  restored_none = record { len = refl; long = refl; repairs = start }

  module _ (r : Ready l st xs) {b : ℕ} {left : Standing} {ys : List ℕ} (R : Restored l st b xs ys left) (h : b < blocks l) where
    -- a block that is still lost was lost at entry, had its plan then, and has one in its turn
    pub restored_due : Due l left b ys
    restored_due =
        record {
          given = r.given;
          short = omega (arith, R.len, r.short);
          whole = rw R.len (R.long ∙ r.whole);
          number = h;
          plan = λ o.
              let was : marked st.lost b ≡ true = sym (repairs_above (code_of l st.len) R.repairs b (omega arith)) ∙ o in
              (repair_met (repairs_accepted (code_of l st.len) (code_proper l r.given st.len) R.repairs h was (r.plans b h was))).2;
        }

    pub restored_next : {zs : List ℕ} {m : Standing} → Turned l left b ys zs m → Restored l st (b + 1) xs zs m
    restored_next {zs} {m} T = record { len = T.len ∙ R.len; long = T.long ∙ R.long; repairs = rw (add-one b) (at (marked left.lost b) refl) }
      where
        at : (t : Bool) → marked left.lost b ≡ t → Repairs (code_of l st.len) (stripe_of st xs) (suc b) (stripe st.len (marked m.lost) zs)
        at true o = next R.repairs o (rw R.len at (T.repaired o))
        at false o = rw (T.bytes o, T.marks o) (pass R.repairs o)

-- ---- what a rebuild answers

module _ (l : Layout) (st : Standing) (xs : List ℕ) {u : Unit {0}} (s : FrontSays l st (Sized l st.len (length xs)) (Ok u)) where
  pub rebuilds_named : {b : ℕ} → LowestIs l st.lost (Some b) → RebuildsAll l st xs xs (Err (NoPlan b))
  rebuilds_named {b} x =
      record {
        outcome = record {
          verdict = front_passed s (code_of l st.len) (marked st.lost) rebuild (rebuild_named (code_of l st.len) (marked st.lost) lowest).first;
          effect = refl;
        };
        len = refl;
        long = refl;
      }
    where
      -- L is of no account
      lowest : Lowest (code_of l st.len) (marked st.lost) b
      lowest = record { below = x.below; gone = x.gone; none = x.none; least = x.least }

  pub rebuilds_done : LowestIs l st.lost None → (ys : List ℕ) (left : Standing) → Restored l st (blocks l) xs ys left → RebuildsAll l st xs ys (Ok left)
  rebuilds_done x ys left R =
      record {
        outcome = record {
          verdict = front_passed s (code_of l st.len) (marked st.lost) rebuild ((rebuild_done (code_of l st.len) (marked st.lost)).1 x).first;
          effect = rw R.len R.repairs;
        };
        len = R.len;
        long = R.long;
      }

-- ---- a rebuild's 14 names its block

-- whether an answer names a block
abbrev names : Calls.Answer → ℕ
names done = 0
names (refused (by number)) = 0
names (refused (naming number b)) = 1

never_14 : (P : ℕ → Type 0) (m b : ℕ) → First (each (λ a. naming 14 a unless P a) m b) (refused (by 14)) → ⊥
unfolding each
never_14 P zero b v = undone (by 14) (sym v)
never_14 P (suc m) b (inl x) = let z : ◌≡◌ {A = ℕ} 0 1 = ap names x.1 in absurd (omega arith)
never_14 P (suc m) b (inr x) = never_14 P m (suc b) x.1

-- it is never refused by 14 alone
pub rebuild_names : (l : Layout) (st : Standing) (xs ys : List ℕ) → RebuildsAll l st xs ys (Err (Refused Why.NoPlan)) → ⊥
rebuild_names l st xs ys R = at R.outcome.verdict.first
  where
    other : {m : ℕ} → refused (by 14) ≡ refused (by m) → (m ≡ 14 → ⊥) → ⊥
    other e n = n (sym (ap number_of e))

    at : First (front l st (Sized l st.len (length xs)) ++ needs (code_of l st.len) (marked st.lost) rebuild) (refused (by 14)) → ⊥
    at (inl x) = other x.1 (λ e. omega arith)
    at (inr (g, inl x)) = other x.1 (λ e. omega arith)
    at (inr (g, inr (s, inl x))) = other x.1 (λ e. omega arith)
    at (inr (g, inr (s, inr (u, v)))) = never_14 (λ b. marked st.lost b ≡ true → HasPlan (code_of l st.len) (marked st.lost) b) (blocks l) 0 v
