-- Inside: what the function that asks 6 and 7 answers, and what a refusal gives back. No contract of the store's calls names what stands here.
use Rattle.std.specs.Prelude.{[], ◌∷◌, ℕ, Result, Err}
use Rattle.groups.specs.declared.Layout.{Layout}
use Rattle.given.specs.Given.{Given}
use Rattle.calls.specs.Calls.{First, ◌unless◌, by}
use Rattle.plan.specs.declared.Standing.{Standing}
use Rattle.plan.specs.declared.Refusal.{Refusal}
use Rattle.plan.specs.Refusals.{said}
use Rattle.shape.specs.declared.Stood.{Stood}

-- the first of 6 and 7 that is not met, or accepted
pub record ShapeSays (l : Layout) (sized : Type 0) (r : Result (Unit {0}) Refusal) : Type 0 where
  pub first : First ((by 6 unless Given l) ∷ (by 7 unless sized) ∷ []) (said r)

-- a refusal by its number, with the standing as it was
abbrev pub refusal : Standing → ℕ → Stood
refusal st number = record { standing = st; answer = Err number }
