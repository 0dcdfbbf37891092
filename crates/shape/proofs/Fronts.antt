-- Proved: what the test of 6 and 7 tells a caller, and how a refusal by it is one by 6, 7 and 8.
use mathlib.Core.Path.{◌≡◌, refl}
use mathlib.Core.Bool.{Bool, false}
use mathlib.Core.List.{[], ◌∷◌}
use mathlib.Core.Logic.{inl, inr}
use Prim.Native.Nat.{ℕ, ◌≤◌}
use Rattle.std.specs.Prelude.{Ok, Err}
use Rattle.groups.specs.declared.Layout.{Layout}
use Rattle.given.specs.Given.{Given}
use Rattle.marks.specs.Marks.{marked}
use Rattle.rows.specs.Rows.{blocks}
use Rattle.calls.specs.Code.{Code}
use Rattle.calls.specs.Calls.{Call, Verdict, ◌unless◌, by, needs, refused}
use Rattle.calls.proofs.Needs.{undone, done_met}
use Rattle.plan.specs.declared.Refusal.{Refusal}
use Rattle.plan.specs.declared.Refusal.TheVariants as Why
use Rattle.plan.specs.declared.Standing.{Standing}
use Rattle.plan.specs.Front.{FrontSays}
use Rattle.plan.specs.Refusals.{number}
use Rattle.plan.proofs.Fronts.{first_front}
use Rattle.shape.specs.Front.{ShapeSays}

-- which facts make which answer
module _ {l : Layout} {P : Type 0} where
  pub shape_6 : (Given l → ⊥) → ShapeSays l P (Err Why.Layout)
  shape_6 n = record { first = inl (n, refl) }

  pub shape_7 : Given l → (P → ⊥) → ShapeSays l P (Err Why.Length)
  shape_7 g n = record { first = inr (g, inl (n, refl)) }

  pub shape_0 : Given l → P → ShapeSays l P (Ok tt)
  shape_0 g p = record { first = inr (g, inr (p, refl)) }

  -- a refusal by it is the call's own answer, since these needs are asked first
  pub shape_refused : {e : Refusal} → ShapeSays l P (Err e) → (c : Code) (lost : ℕ → Bool) (q : Call)
      → Verdict ((by 6 unless Given l) ∷ (by 7 unless P) ∷ []) c lost q (refused (by (number e)))
  shape_refused {e} s c lost q =
      record { first = first_front ((by 6 unless Given l) ∷ (by 7 unless P) ∷ []) (needs c lost q) (by (number e)) s.first }

module _ {l : Layout} {st : Standing} {P : Type 0} where
  -- a refusal by 6 or 7
  pub front_shape : (e : Refusal) → ShapeSays l P (Err e) → FrontSays l st P (Err e)
  front_shape e s =
      record {
        first = first_front ((by 6 unless Given l) ∷ (by 7 unless P) ∷ [])
            ((by 8 unless ((b : ℕ) → blocks l ≤ b → marked st.lost b ≡ false)) ∷ []) (by (number e)) s.first;
      }

-- what an accepted one met
module _ {l : Layout} {P : Type 0} {u : Unit {0}} (s : ShapeSays l P (Ok u)) where
  pub shape_given : Given l
  shape_given = (done_met (undone (by 6)) s.first).0

  pub shape_sized : P
  shape_sized = (done_met (undone (by 7)) (done_met (undone (by 6)) s.first).1).0
