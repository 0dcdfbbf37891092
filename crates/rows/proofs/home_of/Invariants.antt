-- Proved: `home_of` meets its contract. The invariant: `at` is the home among the groups below x.
use mathlib.Core.Path.{◌≡◌}
use Rattle.rows.specs.Rows.{home_below}
use Rattle.rows.proofs.home_of.Given as goal

abbrev pub invariant-loop-x : goal.invariant-loop-x
invariant-loop-x l = l.at ≡ home_below l.fn.l l.b l.x
