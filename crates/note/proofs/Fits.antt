-- Proved: the bounds on the running totals are the bounds on a tree's own totals, added to those at which its reading starts.
use Prim.Native.Nat.{ℕ, ◌+◌, ◌*◌, ◌≤◌, ◌<◌}
use native.Mathlib.Omega.{arith}
use lib.ListN.{length, length-append}
use Rattle.groups.specs.declared.Layout.{Layout}
use Rattle.groups.specs.declared.State.{State}
use Rattle.groups.specs.Groups.{grown, at_start}
use Rattle.note.specs.Tree.{Tree, Members, over, note_of, notes_in, datas, datas_in, redundants, redundants_in, size, size_in, nesting, nesting_in, rows, rows_in, fewest, fewest_in, Within}
use Rattle.note.specs.Tree.Tree.{leaf, branch}
use Rattle.note.specs.Tree.Members.{pair, more}
use Rattle.groups.proofs.Totals.{Room}
use Rattle.note.proofs.Advance.{after, groups_length}

-- totals that stay within the bounds from the layout l on, at the nesting `level` and with `row` rows round them
pub record Bounded (level row : ℕ) (l : Layout) (least size nest path k r : ℕ) : Type 0 where
  pub leaves : 1 ≤ least
  pub groups : l.groups + size ≤ 16
  pub deep : level + nest ≤ 5
  pub long : row + path ≤ 16
  pub datas : l.k + k ≤ 32
  pub blocks : l.k + k + (l.r + r) ≤ 48

abbrev pub Fits : ℕ → ℕ → Layout → Tree → Type 0
Fits level row l t = Bounded level row l (fewest t) (size t) (nesting t) (rows t) (datas t) (redundants t)

abbrev pub FitsIn : ℕ → ℕ → Layout → Members → Type 0
FitsIn level row l ms = Bounded level row l (fewest_in ms) (size_in ms) (nesting_in ms) (rows_in ms) (datas_in ms) (redundants_in ms)

module _ (level row : ℕ) (w : State) where
  -- ---- up: from the parts to the whole

  pub fits_leaf : (h d : ℕ) → Room level row h d w.lay → 0 < d → Fits level row w.lay (leaf h d)
  unfolding fewest size nesting rows datas redundants over
  fits_leaf h d r p = omega arith

  pub fits_branch : (h len : ℕ) (ms : Members) → Room level row h 0 w.lay → FitsIn (level + 1) (row + h) (grown row h 0 len 5 w).lay ms →
      Fits level row w.lay (branch h ms)
  unfolding fewest fewest_in size size_in nesting nesting_in rows rows_in datas datas_in redundants redundants_in over
  fits_branch h len ms r f = omega arith

  pub fits_pair : (t u : Tree) → Fits level row w.lay t → Fits level row (after t row w).lay u → FitsIn level row w.lay (pair t u)
  unfolding fewest fewest_in size size_in nesting nesting_in rows rows_in datas datas_in redundants redundants_in over
  fits_pair t u f g =
      let n = groups_length t row w.lay.k w.lay.r in
      record { leaves = omega arith; groups = omega arith; deep = omega arith; long = omega arith; datas = omega arith; blocks = omega arith }

  pub fits_more : (t : Tree) (ms : Members) → Fits level row w.lay t → FitsIn level row (after t row w).lay ms → FitsIn level row w.lay (more t ms)
  unfolding fewest fewest_in size size_in nesting nesting_in rows rows_in datas datas_in redundants redundants_in over
  fits_more t ms f g =
      let n = groups_length t row w.lay.k w.lay.r in
      record { leaves = omega arith; groups = omega arith; deep = omega arith; long = omega arith; datas = omega arith; blocks = omega arith }

  -- ---- down: from the whole to the parts

  pub leaf_fits : (h d : ℕ) → Fits level row w.lay (leaf h d) → Room level row h d w.lay × (0 < d)
  unfolding fewest size nesting rows datas redundants over
  leaf_fits h d f = (omega arith, omega arith)

  pub branch_fits : (h len : ℕ) (ms : Members) → Fits level row w.lay (branch h ms) →
      Room level row h 0 w.lay × FitsIn (level + 1) (row + h) (grown row h 0 len 5 w).lay ms
  unfolding fewest fewest_in size size_in nesting nesting_in rows rows_in datas datas_in redundants redundants_in over
  branch_fits h len ms f = (omega arith, omega arith)

  pub pair_fits : (t u : Tree) → FitsIn level row w.lay (pair t u) → Fits level row w.lay t × Fits level row (after t row w).lay u
  unfolding fewest fewest_in size size_in nesting nesting_in rows rows_in datas datas_in redundants redundants_in over
  pair_fits t u f =
      let n = groups_length t row w.lay.k w.lay.r in (
        record { leaves = omega arith; groups = omega arith; deep = omega arith; long = omega arith; datas = omega arith; blocks = omega arith },
        record { leaves = omega arith; groups = omega arith; deep = omega arith; long = omega arith; datas = omega arith; blocks = omega arith },
      )

  pub more_fits : (t : Tree) (ms : Members) → FitsIn level row w.lay (more t ms) → Fits level row w.lay t × FitsIn level row (after t row w).lay ms
  unfolding fewest fewest_in size size_in nesting nesting_in rows rows_in datas datas_in redundants redundants_in over
  more_fits t ms f =
      let n = groups_length t row w.lay.k w.lay.r in (
        record { leaves = omega arith; groups = omega arith; deep = omega arith; long = omega arith; datas = omega arith; blocks = omega arith },
        record { leaves = omega arith; groups = omega arith; deep = omega arith; long = omega arith; datas = omega arith; blocks = omega arith },
      )

-- ---- the bounds of document 01

mutual
  unfolding fewest fewest_in datas datas_in over

  datas_some : (t : Tree) → fewest t ≤ datas t
  datas_some (leaf h d) = omega arith
  datas_some (branch h ms) = datas_in_some ms

  datas_in_some : (ms : Members) → fewest_in ms ≤ datas_in ms
  datas_in_some (pair t u) = omega (arith, datas_some t, datas_some u)
  datas_in_some (more t ms) = omega (arith, datas_some t, datas_in_some ms)

pub fits_within : (t : Tree) → Fits 1 0 at_start.lay t → Within t
fits_within t f = omega (arith, datas_some t)

pub within_fits : (t : Tree) → Within t → Fits 1 0 at_start.lay t
within_fits t b = omega arith

-- ---- how long a note is

mutual
  unfolding note_of notes_in size size_in over

  pub note_short : (t : Tree) → (0 < length (note_of t)) × (length (note_of t) ≤ 6 * size t)
  note_short (leaf h d) = omega arith
  note_short (branch h ms) = omega (arith, notes_short ms)

  pub notes_short : (ms : Members) → length (notes_in ms) ≤ 6 * size_in ms
  notes_short (pair t u) = omega (arith, length-append (note_of t) (note_of u), note_short t, note_short u)
  notes_short (more t ms) = omega (arith, length-append (note_of t) (notes_in ms), note_short t, notes_short ms)
