-- Proved: which facts make which answer of a repair, and that what was done then is what `calls` asks.
use mathlib.Core.Path.{◌≡◌, refl, ap, ◌∙◌}
use mathlib.Core.Bool.{true, false}
use mathlib.Core.List.{List}
use mathlib.Core.Logic.{inl, inr}
use Prim.Native.Nat.{ℕ, ◌*◌, ◌<◌, ◌≤◌}
use native.Mathlib.Omega.{arith}
use Rattle.std.specs.Prelude.{Some, Ok, Err}
use lib.ListN.{length}
use Rattle.linear.specs.Sets.{remove}
use Rattle.linear.proofs.Sets.{in_and_out, remove_same, remove_other}
use Rattle.groups.specs.declared.Layout.{Layout}
use Rattle.given.specs.Given.{Given}
use Rattle.marks.specs.Marks.{marked, without_mark}
use Rattle.marks.proofs.Bits.{marked_without}
use Rattle.rows.specs.Rows.{blocks}
use Rattle.calls.specs.Calls.{stripe, repair, Verdict, Repaired, refused, by}
use Rattle.plan.specs.declared.Refusal.{Refusal}
use Rattle.plan.specs.declared.Refusal.TheVariants.{Block, Present}
use Rattle.plan.specs.declared.Standing.{Standing}
use Rattle.plan.specs.Codes.{code_of, front}
use Rattle.plan.specs.Refusals.{number}
use Rattle.plan.specs.Inner.{Coefficients}
use Rattle.plan.specs.Front.{FrontSays}
use Rattle.pieces.specs.Pieces.{Makeable, Made}
use Rattle.shape.specs.Shapes.{Sized}
use Rattle.plan.proofs.Fronts.{front_given, front_sized, front_passed}
use Rattle.pieces.proofs.Effects.{repaired, plan_makeable}
use Rattle.shape.proofs.Plans.{planned, has_plan}
use Rattle.repairs.specs.Repairs.{RepairsOne}

-- ---- the block made

module _ (l : Layout) (given : Given l) (L lost b : ℕ) {coef : List ℕ} (x : Coefficients l lost b (Some coef)) (xs : List ℕ) where
  -- a lost block of a whole stripe can be made by its plan
  pub mendable : b < blocks l → L ≤ 1024 → length xs ≡ blocks l * L → Makeable xs coef L b
  mendable below most whole = plan_makeable (code_of l L) (marked lost) below (planned l given L lost b x) most whole

  -- and is then repaired, its mark being cleared
  pub mended : (ys : List ℕ) (m : ℕ) → m ≡ without_mark lost b → Made coef L b xs ys
      → Repaired (code_of l L) (marked lost) (stripe L (marked lost) xs) b (stripe L (marked m) ys)
  mended ys m q M =
      repaired (code_of l L) (marked lost) refl (planned l given L lost b x) (marked m)
      (gone b ∙ remove_same b (marked lost)) (λ i n. gone i ∙ remove_other b (marked lost) i n) M
    where
      gone : (i : ℕ) → marked m i ≡ remove b (marked lost) i
      gone i = ap (λ (y : ℕ). marked y i) q ∙ marked_without lost b i

-- ---- repairs

module _ (l : Layout) (st : Standing) (b : ℕ) (xs : List ℕ) where
  repair_refused : (e : Refusal) → Verdict (front l st (Sized l st.len (length xs))) (code_of l st.len) (marked st.lost) (repair b) (refused (by (number e)))
      → RepairsOne l st b xs xs (Err e)
  repair_refused e v = record { outcome = record { verdict = v; effect = refl }; len = refl; long = refl }

  module _ {u : Unit {0}} (s : FrontSays l st (Sized l st.len (length xs)) (Ok u)) where
    pub repairs_9 : blocks l ≤ b → RepairsOne l st b xs xs (Err Block)
    repairs_9 h = repair_refused Block (front_passed s (code_of l st.len) (marked st.lost) (repair b) (inl (λ k. omega arith, refl)))

    module _ (below : b < blocks l) where
      pub repairs_10 : marked st.lost b ≡ false → RepairsOne l st b xs xs (Err Present)
      repairs_10 e =
          repair_refused Present
          (front_passed s (code_of l st.len) (marked st.lost) (repair b) (inr (below, inl (λ h. in_and_out h e, refl))))

      module _ (lost : marked st.lost b ≡ true) where
        module _ {coef : List ℕ} (x : Coefficients l st.lost b (Some coef)) where
          pub repair_makeable : Makeable xs coef st.len b
          repair_makeable = mendable l (front_given s) st.len st.lost b x xs below (front_sized s).range.most (front_sized s).whole

          pub repairs_done : (ys : List ℕ) (m : ℕ) → m ≡ without_mark st.lost b → Made coef st.len b xs ys
              → RepairsOne l st b xs ys (Ok (record { len = st.len; lost = m }))
          repairs_done ys m q M =
              record {
                outcome = record {
                  verdict =
                      front_passed s (code_of l st.len) (marked st.lost) (repair b)
                      (inr (below, inr (lost, inr (has_plan l (front_given s) st.len st.lost b x below, refl))));
                  effect = mended l (front_given s) st.len st.lost b x xs ys m q M;
                };
                len = refl;
                long = M.long;
              }
