-- Proved: which facts make which answer to a correction, and that what was done then is what `calls` asks.
use mathlib.Core.Path.{◌≡◌, refl}
use mathlib.Core.Bool.{true, false}
use mathlib.Core.List.{List}
use mathlib.Core.Logic.{inl, inr}
use Prim.Native.Nat.{ℕ, ◌+◌, ◌<◌, ◌≤◌}
use native.Mathlib.Omega.{arith}
use Rattle.std.specs.Prelude.{Ok, Err}
use lib.ListN.{length}
use Rattle.linear.proofs.Sets.{in_and_out}
use Rattle.groups.specs.declared.Layout.{Layout}
use Rattle.given.proofs.Facts.{given_proper}
use Rattle.marks.specs.Marks.{marked}
use Rattle.rows.specs.Rows.{blocks}
use Rattle.rows.specs.Answers.{Matrix}
use Rattle.calls.specs.Calls.{correct, Verdict, refused, by}
use Rattle.plan.specs.declared.Refusal.{Refusal}
use Rattle.plan.specs.declared.Refusal.TheVariants.{Block, Lost, Range}
use Rattle.plan.specs.declared.Standing.{Standing}
use Rattle.plan.specs.Codes.{code_of, front}
use Rattle.plan.specs.Front.{FrontSays}
use Rattle.plan.specs.Refusals.{number}
use Rattle.corrections.specs.Corrections.{Correctable, CorrectedList}
use Rattle.shape.specs.Shapes.{Sized}
use Rattle.correct.specs.Corrects.{Corrects}
use Rattle.plan.proofs.Fronts.{front_given, front_sized, front_passed}
use Rattle.corrections.proofs.Effects.{corrected}
use Rattle.shape.proofs.Matrices.{layout_renders}

module _ (l : Layout) (st : Standing) (i off : ℕ) (d xs : List ℕ) where
  correct_refused : (e : Refusal)
      → Verdict (front l st (Sized l st.len (length xs))) (code_of l st.len) (marked st.lost) (correct i off d) (refused (by (number e)))
      → Corrects l st i off d xs xs (Err e)
  correct_refused e v = record { outcome = record { verdict = v; effect = refl }; long = refl }

  module _ {u : Unit {0}} (s : FrontSays l st (Sized l st.len (length xs)) (Ok u)) where
    pub corrects_9 : l.k ≤ i → Corrects l st i off d xs xs (Err Block)
    corrects_9 h = correct_refused Block (front_passed s (code_of l st.len) (marked st.lost) (correct i off d) (inl (λ k. omega arith, refl)))

    module _ (below : i < l.k) where
      pub corrects_11 : marked st.lost i ≡ true → Corrects l st i off d xs xs (Err Lost)
      corrects_11 e =
          correct_refused Lost
          (front_passed s (code_of l st.len) (marked st.lost) (correct i off d) (inr (below, inl (λ h. in_and_out e h, refl))))

      module _ (here : marked st.lost i ≡ false) where
        pub corrects_12 : (off + length d ≤ st.len → ⊥) → Corrects l st i off d xs xs (Err Range)
        corrects_12 n =
            correct_refused Range
            (front_passed s (code_of l st.len) (marked st.lost) (correct i off d) (inr (below, inr (here, inl (n, refl)))))

        module _ (stays : off + length d ≤ st.len) (rows : List ℕ) (M : Matrix l rows) where
          pub correct_able : Correctable rows xs l.k (blocks l) st.len i off d
          correct_able =
              record {
                matrix = M.long;
                columns = (given_proper l (front_given s)).k;
                fits = omega arith;
                few = (given_proper l (front_given s)).n;
                whole = (front_sized s).whole;
                number = below;
                stays = stays;
              }

          pub corrects_done : (ys : List ℕ) → CorrectedList rows st.lost st.len l.k (blocks l) i off d xs ys → Corrects l st i off d xs ys (Ok tt)
          corrects_done ys D =
              record {
                outcome = record {
                  verdict = front_passed s (code_of l st.len) (marked st.lost) (correct i off d) (inr (below, inr (here, inr (stays, refl))));
                  effect = corrected (code_of l st.len) (layout_renders l (front_given s) st.len M) below D;
                };
                long = D.long;
              }
