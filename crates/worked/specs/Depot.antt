-- Believed: document 01, "A depot pair worked through": the layout of the sample note, what is said of it, the stripe, its correction, and the price.
use Rattle.std.specs.Prelude.{false, List, [], ◌∷◌, map, ℕ, pos, negsuc, Float}
use Rattle.std.specs.Float.{fin}
use Rattle.groups.specs.declared.Layout.{Layout}
use Rattle.note.specs.Tree.{leaf, branch, pair, layout_of}
use Rattle.rows.specs.Rows.{blocks, row}

-- two leaf groups of two data blocks and one redundant block each, and one redundant block over both
unfoldable pub depot : Layout
depot = layout_of (branch 1 (pair (leaf 1 2) (leaf 1 2)))

-- ---- "k = 4, n = 7. Row 0 is 27, 84, 161, 29; block 5 is 84, 27, 0, 0; block 6 is 0, 0, 29, 161"

-- what is asked of a layout: how many data blocks and how many blocks it has, or the row of a block over the first four data blocks
pub data Asked : Type 0 where
  k : Asked
  n : Asked
  block : ℕ → Asked

abbrev pub told : Layout → Asked → List ℕ
told l k = l.k ∷ []
told l n = blocks l ∷ []
told l (block b) = map (row l b) (0 ∷ 1 ∷ 2 ∷ 3 ∷ [])

-- what is asked of the depot pair, and what is said. Row 0 of the matrix is whole in block 4
abbrev pub facts : List (Asked × List ℕ)
facts =
    (k, 4 ∷ [])
    ∷ (n, 7 ∷ [])
    ∷ (block 4, 27 ∷ 84 ∷ 161 ∷ 29 ∷ [])
    ∷ (block 5, 84 ∷ 27 ∷ 0 ∷ 0 ∷ [])
    ∷ (block 6, 0 ∷ 0 ∷ 29 ∷ 161 ∷ [])
    ∷ []

-- ---- the stripe

-- "L = 1, data 1 2 3 4: stripe 1 2 3 4 57 98 153"
abbrev pub stripe : List ℕ
stripe = 1 ∷ 2 ∷ 3 ∷ 4 ∷ 57 ∷ 98 ∷ 153 ∷ []

-- "Difference 5 on block 0 of that stripe: 4 2 3 4 78 123 153"
abbrev pub corrected : List ℕ
corrected = 4 ∷ 2 ∷ 3 ∷ 4 ∷ 78 ∷ 123 ∷ 153 ∷ []

-- ---- "Price: storage 1.75, reads 2.0"

-- 7 times 2 ^ -2
abbrev pub storage : Float
storage = fin false 7 (negsuc 1)

-- 1 times 2 ^ 1
abbrev pub reads : Float
reads = fin false 1 (pos 1)
