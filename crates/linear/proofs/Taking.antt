-- Proved: one survivor more is taken in. Where its row is reduced to zeros it is skipped, being a combination of those kept; otherwise it is kept.
use mathlib.Core.List.{List}
use mathlib.Core.Logic.{⊎_elim}
use mathlib.Core.Path.{◌≡◌, refl, ◌∙◌}
use Prim.Native.Nat.{ℕ, suc, ◌+◌, ◌*◌, ◌<◌}
use native.Mathlib.Numerals.{add-one}
use native.Mathlib.Omega.{arith}
use lib.ListN.{get_or}
use Rattle.linear.specs.Sets.{none, insert}
use Rattle.linear.specs.Greedy.{begin, keeps, skips}
use Rattle.linear.specs.Solved.{vec, row_of}
use Rattle.linear.specs.Slots.{slot, pivot, Filled, Shape, Taken, Dropped, Stored, Absorbed}
use Rattle.linear.specs.declared.Slot.{Slot}
use Rattle.linear.proofs.Sets.{insert_same, insert_other}
use Rattle.linear.proofs.Reduction.{eliminated_more, eliminated_none, within, complete}

module _ {rows order : List ℕ} {slots : List Slot} {count j : ℕ} (t : Taken rows order slots count j)
    {row v : List ℕ} {slots' : List Slot} {r : ℕ} (rb : (k : ℕ) → get_or rows k 0 < 256) (vb : (k : ℕ) → get_or v k 0 < 256)
    (l : get_or order j 0 < 48)
    (same : (i : ℕ) → i < 32 → get_or row i 0 ≡ row_of rows (get_or order j 0) i) (f : Filled row (get_or order j 0) 1 v) where
  taken_drop : Shape slots' r → Dropped v slots count slots' r → Taken rows order slots' r (suc j)
  taken_drop s d =
      record {
        shape = s;
        kept = t.kept;
        choice = skips t.choice (within 48 32 (row_of rows) t.state (vec v) (λ i k. f.row_part i k ∙ same i k) d.zeros);
        state = rw (d.slots_same, d.count_same) t.state;
      }

  taken_store : Shape slots' r → Stored v slots count slots' r → Taken rows order slots' r (suc j)
  taken_store s d =
      record {
        shape = s;
        kept = insert b t.kept;
        choice = keeps t.choice
            (λ x.
            let z = complete 48 32 (row_of rows) t.state (vec v) vb (λ i k. f.row_part i k ∙ same i k) x d.col d.within in
            omega (arith, d.some));
        state = rw (d.count_more, add-one count)
            (eliminated_more 48 32 (row_of rows) t.state (λ u i. rb (u * 32 + i)) (insert b t.kept) b l
            (insert_same b t.kept) (insert_other b t.kept) (vec v) vb (λ i k. f.row_part i k ∙ same i k)
            f.unit_part d.col d.within d.some (slot slots') (pivot slots') s.byte d.old d.old_col d.new
            d.new_col);
      }
    where
      b : ℕ
      b = get_or order j 0

  pub taken_more : Absorbed v slots count slots' r → Taken rows order slots' r (j + 1)
  taken_more a = rw (add-one j) (⊎_elim (taken_drop a.shape) (taken_store a.shape) a.either)

pub taken_none : (rows order : List ℕ) {slots : List Slot} → Shape slots 0 → Taken rows order slots 0 0
taken_none rows order {slots} s =
    record {
      shape = s;
      kept = none;
      choice = begin;
      state = eliminated_none 48 32 (row_of rows) none (slot slots) (pivot slots) s.byte (λ s l. refl);
    }
