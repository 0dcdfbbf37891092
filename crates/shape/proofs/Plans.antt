-- Proved: the coefficients that are found for a lost block are its plan, whatever the length of the blocks.
use mathlib.Core.List.{List}
use Prim.Native.Nat.{ℕ, ◌<◌}
use native.Mathlib.Omega.{arith}
use Rattle.std.specs.Prelude.{Some}
use Rattle.linear.specs.Solved.{vec}
use Rattle.groups.specs.declared.Layout.{Layout}
use Rattle.given.specs.Given.{Given}
use Rattle.given.proofs.Facts.{given_proper}
use Rattle.marks.specs.Marks.{marked}
use Rattle.rows.specs.Rows.{blocks}
use Rattle.calls.specs.Code.{HasPlan}
use Rattle.calls.proofs.Plans.{has_plan_iff}
use Rattle.plan.specs.Codes.{code_of}
use Rattle.plan.specs.Inner.{Coefficients}
use Rattle.plan.proofs.Codes.{code_proper}
use Rattle.pieces.proofs.Effects.{Planned}

module _ (l : Layout) (given : Given l) (L lost b : ℕ) {coef : List ℕ} (x : Coefficients l lost b (Some coef)) where
  -- coefficients that are found are a plan
  pub planned : Planned (code_of l L) (marked lost) b coef
  planned = record { plan = x.plan; long = omega (arith, (given_proper l given).n, x.long); past = λ s h k. x.past s h }

  -- and a lost block for which they are found has one
  pub has_plan : b < blocks l → HasPlan (code_of l L) (marked lost) b
  has_plan below = (has_plan_iff (code_of l L) (code_proper l given L) (marked lost) b below).1 (vec coef, x.plan)
