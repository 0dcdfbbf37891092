-- Proved: `listed` meets its contract. The invariant: the blocks below s are listed.
use mathlib.Core.Path.{◌≡◌}
use Rattle.linear.specs.Solved.{vec}
use Rattle.plan.specs.Listing.{list_of}
use Rattle.plan.proofs.listed.Given as goal

abbrev pub invariant-loop-s : goal.invariant-loop-s
invariant-loop-s l = l.p ≡ list_of (vec l.coef) l.s
