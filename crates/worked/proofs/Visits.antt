-- Proved: of the layout of document 01, "A depot pair worked through", the order in which the plan of block 0 visits the survivors where block 0 is
-- lost, computed from the definitions. And a layout in which two lost blocks have different orders.
use mathlib.Core.Path.{◌≡◌, refl}
use mathlib.Core.Bool.{◌||◌}
use mathlib.Core.List.{[], ◌∷◌, map}
use lib.Dec.{eqb}
use Rattle.note.specs.Tree.{leaf, branch, pair, over, over_in, notes_in, datas, datas_in, redundants, redundants_in, size, size_in, groups_of, groups_in, layout_of}
use Rattle.rows.specs.Rows.{among, owns, home_below, home, holds}
use Rattle.visits.specs.Visits.{meet_below, step, at_step, visits_below, visits}
use Rattle.worked.specs.Depot.{depot}

pub depot_visits : visits depot (λ s. eqb s 0) 0 ≡ 1 ∷ 5 ∷ 2 ∷ 3 ∷ 4 ∷ 6 ∷ []
unfolding visits visits_below at_step step meet_below holds home home_below owns among depot layout_of groups_of groups_in datas datas_in redundants redundants_in size size_in notes_in over over_in
depot_visits = refl

-- two leaf groups of four data blocks and one redundant block each, and two redundant blocks over both; blocks 0, 4 and 5 lost: block 0 and block 4
-- each come to their own leaf first
pub twelve_visits : map (visits (layout_of (branch 2 (pair (leaf 1 4) (leaf 1 4)))) (λ s. eqb s 0 || eqb s 4 || eqb s 5)) (0 ∷ 4 ∷ [])
    ≡ (1 ∷ 2 ∷ 3 ∷ 10 ∷ 6 ∷ 7 ∷ 8 ∷ 9 ∷ 11 ∷ []) ∷ (6 ∷ 7 ∷ 11 ∷ 1 ∷ 2 ∷ 3 ∷ 8 ∷ 9 ∷ 10 ∷ []) ∷ []
unfolding visits visits_below at_step step meet_below holds home home_below owns among layout_of groups_of groups_in datas datas_in redundants redundants_in size size_in notes_in over over_in
twelve_visits = refl
