-- Believed: document 01, "Repairs, corrections, reading": what a correction answers and leaves, through the definitions of `calls` at the layout's own
-- matrix and order. A refusal alters nothing lent.
use Rattle.std.specs.Prelude.{◌≡◌, List, ℕ, length, Result}
use Rattle.groups.specs.declared.Layout.{Layout}
use Rattle.calls.specs.Calls.{correct, Outcome}
use Rattle.plan.specs.declared.Standing.{Standing}
use Rattle.plan.specs.declared.Refusal.{Refusal}
use Rattle.plan.specs.Codes.{code_of, front}
use Rattle.plan.specs.Refusals.{said}
use Rattle.shape.specs.Shapes.{Sized, stripe_of}

-- a correction asks 6, 7, 8, then 9 (not below k), 11 and 12
pub record Corrects (l : Layout) (st : Standing) (i off : ℕ) (d xs ys : List ℕ) (r : Result (Unit {0}) Refusal) : Type 0 where
  pub outcome : Outcome (front l st (Sized l st.len (length xs))) (code_of l st.len) (stripe_of st xs) (correct i off d) (said r) (stripe_of st ys)
  pub long : length ys ≡ length xs
