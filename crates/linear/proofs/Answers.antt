-- Proved: what `solve` answers is right, and at most one answer fits.
use mathlib.Core.List.{List}
use mathlib.Core.Bool.{true, false}
use Rattle.std.specs.Prelude.{Option, Some, None, is_some, position}
use mathlib.Core.Path.{◌≡◌, refl, sym, ap, ◌∙◌}
use Prim.Native.Nat.{ℕ, ◌+◌, ◌*◌, ◌<◌}
use native.Mathlib.Omega.{arith}
use lib.ListN.{get_or, take, drop, length-take, length-drop}
use lib.Seq.{ext_get_or}
use Rattle.linear.specs.Reduction.{red, Expressed}
use Rattle.linear.specs.Solved.{vec, row_of, Survivors, Solved}
use Rattle.linear.specs.Slots.{slot, pivot, Leading, Reduced, Filled, Taken}
use Rattle.linear.specs.declared.Slot.{Slot}
use Rattle.linear.proofs.Sums.{put_none}
use Rattle.linear.proofs.Combinations.{comb_cong}
use Rattle.linear.proofs.Reduction.{red_byte, complete, answer, expressed_sum}
use Rattle.linear.proofs.Choice.{kept_combo, plan_unique, plan_combo}
use Rattle.linear.proofs.Vectors.{get_d_part, filled_byte, is_some_byte, leading, row_zero}

module _ {rows order target v r : List ℕ} {slots : List Slot} {m count : ℕ} (rb : (k : ℕ) → get_or rows k 0 < 256) (tb : (k : ℕ) → get_or target k 0 < 256)
    (t : Taken rows order slots count m) (f : Filled target 0 0 v) (x : Reduced v slots count r) where
  unsolved_at : {i : ℕ} → Leading r i → Solved rows order m target None
  unsolved_at {i} o =
      record {
        long = tt;
        plan = tt;
        none = λ q.
            let z : red (slot slots) (pivot slots) count (vec v) i ≡ 0 =
            complete 48 32 (row_of rows) t.state (vec v) (filled_byte f tb) f.row_part
            ((kept_combo 48 32 (row_of rows) (λ s j. rb (s * 32 + j)) (vec order) t.choice).0 q) i o.within in
            omega (arith, o.some, x.at i (omega (arith, o.within)));
      }

  pub unsolved : (o : Option ℕ) → is_some o ≡ true → o ≡ position is_some_byte (take 32 r) → Solved rows order m target None
  unsolved (Some i) s e = unsolved_at (leading r (omega (arith, x.len)) e)
  unsolved None s e = cc

  solved_at : ((k : ℕ) → k < 32 → get_or r k 0 ≡ 0) → Solved rows order m target (Some (take 48 (drop 32 r)))
  solved_at o =
      record {
        long = simp (length-take, length-drop) (omega (arith, x.len));
        plan = record {
          kept = t.kept;
          choice = t.choice;
          out = λ s k q. coef s k ∙ told.out s k q;
          byte = λ s k. rw (coef s k) (ub (32 + s));
          sum = λ j k. expressed_sum 48 32 (row_of rows) told zero j k ∙ comb_cong 48 (row_of rows) j (λ s k. sym (coef s k));
        };
        none = tt;
      }
    where
      u : ℕ → ℕ
      u = red (slot slots) (pivot slots) count (vec v)

      ub : (k : ℕ) → u k < 256
      ub = red_byte (slot slots) (pivot slots) (vec v) (filled_byte f tb) count

      told : Expressed 48 32 (row_of rows) t.kept (vec target) u
      told = answer 48 32 (row_of rows) t.state (vec v) f.row_part (λ s k. f.unit_part s k ∙ put_none 0 s)

      zero : (j : ℕ) → j < 32 → u j ≡ 0
      zero j k = sym (x.at j (omega arith)) ∙ o j k

      coef : (s : ℕ) → s < 48 → get_or (take 48 (drop 32 r)) s 0 ≡ u (32 + s)
      coef s k = get_d_part r 32 48 s k ∙ x.at (32 + s) (omega arith)

  pub solved : (o : Option ℕ) → is_some o ≡ false → o ≡ position is_some_byte (take 32 r) → Solved rows order m target (Some (take 48 (drop 32 r)))
  solved (Some i) s e = cc
  solved None s e = solved_at (row_zero r (omega (arith, x.len)) e)

-- ---- two answers to the same question are one

pub solved_unique : {rows order target : List ℕ} {m : ℕ} {a b : Option (List ℕ)} → ((k : ℕ) → get_or rows k 0 < 256) → Survivors rows order m
    → Solved rows order m target a → Solved rows order m target b → a ≡ b
solved_unique {rows} {order} {target} {m} {a} {b} rb sv = at a b
  where
    wide : (s i : ℕ) → row_of rows s i < 256
    wide s i = rb (s * 32 + i)

    at : (a b : Option (List ℕ)) → Solved rows order m target a → Solved rows order m target b → a ≡ b
    at (Some c) (Some d) x y =
        ap Some
        (ext_get_or 0 c d (x.long ∙ sym y.long)
        (λ s l. plan_unique 48 32 (row_of rows) wide (vec order) sv.below x.plan y.plan s (omega (arith, x.long))))
    at (Some c) None x y = absurd (y.none (plan_combo 48 32 (row_of rows) wide (vec order) x.plan))
    at None (Some d) x y = absurd (x.none (plan_combo 48 32 (row_of rows) wide (vec order) y.plan))
    at None None x y = refl
