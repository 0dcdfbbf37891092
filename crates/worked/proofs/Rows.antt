-- Proved: the layout of document 01, "A depot pair worked through", is what the sample note gives; and what is marked P of it, k, n and rows, computed
-- from the definitions, by one statement over one list.
use Prim.Native.Nat.{ℕ, zero, suc, ◌+◌, ◌<◌}
use mathlib.Core.Path.{◌≡◌, refl, sym}
use mathlib.Core.Bool.{Bool, true}
use mathlib.Core.List.{List, [], ◌∷◌, map}
use native.Mathlib.Omega.{arith}
use lib.Dec.{T, ltb, ltb→lt}
use lib.ListN.{get_or}
use Rattle.field.specs.Field.{◌⊕◌, double, mul_bits, mul, coef}
use Rattle.field.proofs.Laws.{inv_unique}
use Rattle.field.proofs.Table.{both, both_left, both_right}
use Rattle.linear.specs.Sums.{put}
use Rattle.note.specs.Note.{read_note}
use Rattle.note.specs.Note.Outcome.{layout}
use Rattle.given.specs.Given.{Given}
use Rattle.note.specs.Worked.{sample}
use Rattle.note.proofs.Worked.{sample_read}
use Rattle.note.specs.Tree.{over, over_in, notes_in, datas, datas_in, redundants, redundants_in, size, size_in, groups_of, groups_in, layout_of}
use Rattle.rows.specs.Rows.{blocks, among, owns, home_below, home, inside, part, row_number, row}
use Rattle.worked.specs.Depot.{depot, Asked, told, facts}

-- the layout is what the sample note gives
pub depot_read : read_note sample ≡ layout depot
unfolding depot layout_of groups_of groups_in datas datas_in redundants redundants_in size size_in notes_in over over_in
depot_read = sample_read

abbrev small : List ℕ → Bool
small [] = true
small (x ∷ xs) = both (ltb x 256) (small xs)

small_below : (s : List ℕ) → T (small s) → (i : ℕ) → get_or s i 0 < 256
small_below [] o i = omega arith
small_below (x ∷ xs) o zero = ltb→lt x 256 (both_left (ltb x 256) (small xs) o)
small_below (x ∷ xs) o (suc i) = small_below xs (both_right (ltb x 256) (small xs) o) i

pub depot_given : Given depot
depot_given = record { note = sample; bytes = record { below = small_below sample tt }; gives = depot_read }

pub depot_blocks : (depot.k ≡ 4) × (blocks depot ≡ 7)
unfolding depot layout_of datas redundants over over_in
depot_blocks = (refl, refl)

-- a coefficient, told by its product with the point that it is the inverse of
coef_is : (j i x : ℕ) → 128 + (i ⊕ j) < 256 → x < 256 → mul (128 + (i ⊕ j)) x ≡ 1 → coef j i ≡ x
unfolding coef
coef_is j i x h k e = sym (inv_unique (128 + (i ⊕ j)) x h (omega arith) k e)

-- the coefficients that the rows are made of
pub depot_coefs : (coef 0 0 ≡ 27) × (coef 0 1 ≡ 84) × (coef 0 2 ≡ 161) × (coef 0 3 ≡ 29) × (coef 1 0 ≡ 84) × (coef 1 1 ≡ 27) × (coef 1 2 ≡ 29) × (coef 1 3 ≡ 161)
unfolding mul mul_bits double ◌⊕◌
depot_coefs = (
  coef_is 0 0 27 (omega arith) (omega arith) refl,
  coef_is 0 1 84 (omega arith) (omega arith) refl,
  coef_is 0 2 161 (omega arith) (omega arith) refl,
  coef_is 0 3 29 (omega arith) (omega arith) refl,
  coef_is 1 0 84 (omega arith) (omega arith) refl,
  coef_is 1 1 27 (omega arith) (omega arith) refl,
  coef_is 1 2 29 (omega arith) (omega arith) refl,
  coef_is 1 3 161 (omega arith) (omega arith) refl,
)

-- what is told of the layout, by these
depot_told : map (λ (p : Asked × List ℕ). told depot p.0) facts
    ≡ (4 ∷ []) ∷ (7 ∷ []) ∷ (coef 0 0 ∷ coef 0 1 ∷ coef 0 2 ∷ coef 0 3 ∷ []) ∷ (coef 1 0 ∷ coef 1 1 ∷ 0 ∷ 0 ∷ []) ∷ (0 ∷ 0 ∷ coef 1 2 ∷ coef 1 3 ∷ []) ∷ []
unfolding row part inside row_number home home_below owns among put depot layout_of groups_of groups_in datas datas_in redundants redundants_in size size_in notes_in over over_in
depot_told = refl

-- EVERY FACT IS TOLD
pub depot_rows : map (λ (p : Asked × List ℕ). told depot p.0) facts ≡ map (λ (p : Asked × List ℕ). p.1) facts
depot_rows = rw (depot_told, depot_coefs.0, depot_coefs.1, depot_coefs.2, depot_coefs.3, depot_coefs.4, depot_coefs.5, depot_coefs.6, depot_coefs.7)
