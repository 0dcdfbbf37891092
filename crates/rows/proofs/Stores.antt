-- Proved: what a store adds: an entry to a list, a row to the matrix.
use mathlib.Core.Path.{◌≡◌, ◌∙◌}
use mathlib.Core.List.{List}
use Prim.Native.Nat.{ℕ, ◌+◌, ◌*◌, ◌<◌, ◌≤◌}
use native.Mathlib.Omega.{arith}
use native.Mathlib.Decide.{ℕ_discrete}
use borrow.Rule.Slice.PartMut.{put_mid}
use lib.ListN.{length, get_or, set, take, drop, length-take, length-drop}
use lib.Seq.{get_or-set_same, get_or-set_other}
use Rattle.linear.specs.Solved.{row_of}
use Rattle.linear.proofs.Vectors.{put_length, put_before, put_within}
use Rattle.groups.specs.declared.Layout.{Layout}
use Rattle.rows.specs.Rows.{row}
use Rattle.rows.specs.Answers.{Matrix}

-- ---- a list

-- the first i entries are those of f; with the entry i those below i + 1 are
pub written_more : (xs : List ℕ) (f : ℕ → ℕ) (i x : ℕ) → i < length xs → x ≡ f i → ((p : ℕ) → p < i → get_or xs p 0 ≡ f p)
    → (p : ℕ) → p < i + 1 → get_or (set xs i x) p 0 ≡ f p
written_more xs f i x h e w p k = at (ℕ_discrete p i)
  where
    at : Dec (p ≡ i) → get_or (set xs i x) p 0 ≡ f p
    at (yes q) = rw q (get_or-set_same xs i x 0 h ∙ e)
    at (no q) = get_or-set_other xs i p x 0 (omega arith) ∙ w p (omega arith)

-- ---- the matrix

-- the rows of the blocks below m
pub record RowsUpto (l : Layout) (m : ℕ) (bytes : List ℕ) : Type 0 where
  pub long : length bytes ≡ 1536
  pub here : (b i : ℕ) → b < m → i < 32 → row_of bytes b i ≡ row l b i

pub rows_none : (l : Layout) (bytes : List ℕ) → length bytes ≡ 1536 → RowsUpto l 0 bytes
rows_none l bytes h = record { long = h; here = λ b i k j. absurd (omega arith) }

-- the entries of block b's row in the place of the 32 bytes from b * 32 on
pub rows_more : (l : Layout) (b k : ℕ) (old new : List ℕ) → b < 48 → k ≡ 32 → length new ≡ length (take k (drop (b * 32) old))
    → ((i : ℕ) → i < length new → get_or new i 0 ≡ row l b i) → RowsUpto l b old → RowsUpto l (b + 1) (put_mid (b * 32) k old new)
rows_more l b k old new o e m w a =
    record { long = put_length old new (b * 32) k fits n ∙ a.long; here = λ c i p j. here c i p j (ℕ_discrete c b) }
  where
    fits : b * 32 + k ≤ length old
    fits = omega (arith, a.long)

    n : length new ≡ k
    n = m ∙ rw (length-take, length-drop) (omega arith)

    here : (c i : ℕ) → c < b + 1 → i < 32 → Dec (c ≡ b) → row_of (put_mid (b * 32) k old new) c i ≡ row l c i
    here c i p j (yes q) = rw q (put_within old new (b * 32) k fits n i (omega arith) ∙ w i (omega (arith, n)))
    here c i p j (no q) = put_before old new (b * 32) k fits n (c * 32 + i) (omega arith) ∙ a.here c i (omega arith) j

pub rows_all : (l : Layout) (bytes : List ℕ) → RowsUpto l 48 bytes → Matrix l bytes
rows_all l bytes a = record { long = a.long; rows = a.here }
