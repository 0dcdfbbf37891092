-- Believed: document 01, "Repairs, corrections, reading": what a repair and a rebuild answer and leave, through the definitions of `calls` at the layout's
-- own matrix and order. A refusal alters nothing lent.
use Rattle.std.specs.Prelude.{◌≡◌, List, ℕ, length, Result, Ok, Err}
use Rattle.groups.specs.declared.Layout.{Layout}
use Rattle.calls.specs.Calls as Calls
use Rattle.calls.specs.Calls.{by, naming, done, refused, repair, rebuild, Outcome}
use Rattle.plan.specs.declared.Refusal.{Refusal}
use Rattle.plan.specs.declared.Standing.{Standing}
use Rattle.plan.specs.Codes.{code_of, front}
use Rattle.plan.specs.Refusals.{number, said}
use Rattle.shape.specs.Shapes.{Sized, stripe_of, after}
use Rattle.repairs.specs.declared.Unrebuilt.{Unrebuilt}
use Rattle.repairs.specs.declared.Unrebuilt.TheVariants.{Refused, NoPlan}

-- a repair asks 6, 7, 8, then 9, 10 and 14
pub record RepairsOne (l : Layout) (st : Standing) (b : ℕ) (xs ys : List ℕ) (r : Result Standing Refusal) : Type 0 where
  pub outcome : Outcome (front l st (Sized l st.len (length xs))) (code_of l st.len) (stripe_of st xs) (repair b)
      (said r) (stripe_of (after st r) ys)
  pub len : (after st r).len ≡ st.len
  pub long : length ys ≡ length xs

-- document 01's number for each case of a rebuild's answer: "for a rebuild's 14 the block named above"
abbrev pub told : {A : Type 0} → Result A Unrebuilt → Calls.Answer
told (Ok x) = done
told (Err (Refused e)) = refused (by (number e))
told (Err (NoPlan b)) = refused (naming 14 b)

-- a rebuild asks 6, 7, 8, then 14 of every lost block, in rising order
pub record RebuildsAll (l : Layout) (st : Standing) (xs ys : List ℕ) (r : Result Standing Unrebuilt) : Type 0 where
  pub outcome : Outcome (front l st (Sized l st.len (length xs))) (code_of l st.len) (stripe_of st xs) rebuild
      (told r) (stripe_of (after st r) ys)
  pub len : (after st r).len ≡ st.len
  pub long : length ys ≡ length xs
