-- Proved: what the functions over the groups and the steps ask holds of a given layout, and what they answer is what the layout's definitions say.
use mathlib.Core.Path.{◌≡◌, sym, ◌∙◌, ap, ap₂}
use mathlib.Core.Bool.{true, false, ◌&&◌}
use Prim.Native.Nat.{ℕ, ◌+◌, ◌<◌, ◌≤◌}
use native.Mathlib.Numerals.{add-one}
use native.Mathlib.Omega.{arith}
use Rattle.groups.specs.Groups.{group_at}
use Rattle.given.specs.Given.{Given}
use Rattle.groups.specs.declared.Layout.{Layout}
use Rattle.given.proofs.Facts.{given_proper}
use Rattle.rows.specs.Rows.{among, home, holds}
use Rattle.visits.specs.Visits.{meet_below, step}
use Rattle.visits.proofs.Walks.{meet_at, meet_before}

-- ---- one group more

pub size_fits : (l : Layout) → Given l → (x : ℕ) → x < l.groups → x + (group_at l x).size ≤ 16
size_fits l given x h = let proper = given_proper l given in omega (arith, (proper.each x h).inner, proper.groups)

pub meet_yes : (l : Layout) (x y g : ℕ) → (among g (group_at l g).size x && among g (group_at l g).size y) ≡ true → g ≡ meet_below l x y (g + 1)
unfolding holds
meet_yes l x y g e = sym (ap (meet_below l x y) (add-one g) ∙ meet_at l x y g e)

pub meet_no : (l : Layout) (x y g : ℕ) → (among g (group_at l g).size x && among g (group_at l g).size y) ≡ false
    → meet_below l x y g ≡ meet_below l x y (g + 1)
unfolding holds
meet_no l x y g e = sym (ap (meet_below l x y) (add-one g) ∙ meet_before l x y g e)

-- the step, from the homes of both blocks
pub step_is : (l : Layout) (b s x y z : ℕ) → x ≡ home l b → y ≡ home l s → z ≡ meet_below l x y l.groups → z ≡ step l b s
unfolding step
step_is l b s x y z p q r = r ∙ ap₂ (λ (u v : ℕ). meet_below l u v l.groups) p q
