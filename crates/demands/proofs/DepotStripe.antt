-- Proved: the stripe of document 01, "A depot pair worked through", marked P, as what an encoding of the depot pair leaves; and the stripe that a
-- correction of it leaves.
use mathlib.Core.Path.{◌≡◌, refl, sym, ap, ◌∙◌}
use mathlib.Core.List.{List, [], ◌∷◌, map}
use mathlib.Core.Logic.{inr}
use Prim.Native.Nat.{ℕ, zero, suc, ◌+◌, ◌*◌, ◌<◌, ◌≤◌}
use native.Mathlib.Omega.{arith}
use native.Mathlib.Decide.{ℕ_discrete}
use lib.Dec.{eqb, eqb→eq}
use lib.ListN.{get_or, drop}
use Rattle.std.specs.Prelude.{Result, Ok}
use Rattle.field.specs.Field.{◌⊕◌, double, mul_bits, mul}
use Rattle.field.proofs.Table.{below}
use Rattle.linear.specs.Sums.{sum_to}
use Rattle.linear.specs.Blocks.{dot}
use Rattle.note.specs.Tree.{over, over_in, datas, layout_of}
use Rattle.marks.proofs.Bits.{marked_zero}
use Rattle.rows.specs.Rows.{blocks, row}
use Rattle.calls.specs.Code.{enc}
use Rattle.calls.specs.Calls.{laid}
use Rattle.plan.specs.declared.Refusal.{Refusal}
use Rattle.plan.specs.declared.Standing.{Standing}
use Rattle.plan.specs.Codes.{code_of}
use Rattle.worked.specs.Depot.{depot, Asked, told, facts, stripe, corrected}
use Rattle.worked.proofs.Rows.{depot_given, depot_blocks, depot_rows}
use Rattle.worked.proofs.Answers.{in_range}
use Rattle.shape.specs.Shapes.{Sized}
use Rattle.stripe.specs.Stripes.{Encodes}
use Rattle.correct.specs.Corrects.{Corrects}
use Rattle.demands.proofs.Outcomes.{encodes_unique, corrects_unique}

-- ---- 6 and 7 are met

depot_sized : Sized depot 1 7
depot_sized = record { range = in_range; whole = omega (arith, depot_blocks.1) }

-- ---- the redundant blocks

-- what holds of 4, 5 and 6 holds of every redundant block
redundant : (P : ℕ → Type 0) → P 4 → P 5 → P 6 → (b : ℕ) → depot.k ≤ b → b < blocks depot → P b
redundant P f g h b low high = at (ℕ_discrete b 4) (ℕ_discrete b 5)
  where
    at : Dec (b ≡ 4) → Dec (b ≡ 5) → P b
    at (yes e) y = rw e f
    at (no n) (yes e) = rw e g
    at (no n) (no m) = let e : b ≡ 6 = omega (arith, depot_blocks.0, depot_blocks.1) in rw e h

-- a byte below 1 is byte 0
only : (P : ℕ → Type 0) → P 0 → (x : ℕ) → x < 1 → P x
only P p x h = let e : x ≡ 0 = omega arith in rw e p

-- ---- the encoding

-- the sum that a row r makes of the data D, at byte 0
abbrev weighed : (ℕ → ℕ → ℕ) → List ℕ → ℕ
weighed D r = dot 4 (λ i. get_or r i 0) (λ i. D i 0)

redundant_bytes : (D : ℕ → ℕ → ℕ)
    → map (λ (b : ℕ). enc (code_of depot 1) D b 0) (4 ∷ 5 ∷ 6 ∷ []) ≡ map (weighed D) (drop 2 (map (λ (p : Asked × List ℕ). told depot p.0) facts))
unfolding enc dot sum_to depot layout_of datas over over_in
redundant_bytes D = refl

module _ (lost p q s : ℕ) where
  -- data 1 2 3 4, and whatever stood in the redundant blocks
  abbrev lent : List ℕ
  lent = 1 ∷ 2 ∷ 3 ∷ 4 ∷ p ∷ q ∷ s ∷ []

  abbrev byte : ℕ → ℕ → ℕ
  byte b x = get_or lent (b * 1 + x) 0

  made : map (λ (b : ℕ). enc (code_of depot 1) byte b 0) (4 ∷ 5 ∷ 6 ∷ []) ≡ 57 ∷ 98 ∷ 153 ∷ []
  unfolding dot sum_to mul mul_bits double ◌⊕◌
  made = redundant_bytes byte ∙ ap (λ m. map (weighed byte) (drop 2 m)) depot_rows

  data_kept : (j : ℕ) → j < 4 → get_or stripe j 0 ≡ get_or lent j 0
  data_kept j h = eqb→eq (get_or stripe j 0) (get_or lent j 0) (below (λ j. eqb (get_or stripe j 0) (get_or lent j 0)) 4 tt j h)

  -- the encoding that is accepted
  encoding : Encodes depot (record { len = 1; lost = lost }) lent stripe (Ok (record { len = 1; lost = 0 }))
  encoding =
      record {
        outcome = record {
          verdict = record { first = inr (depot_given, inr (depot_sized, refl)) };
          effect = record {
            marks = marked_zero;
            kept = λ i x h k. data_kept (i * 1 + x) (omega (arith, depot_blocks.0));
            made = λ b x low high.
                only (λ x. get_or stripe (b * 1 + x) 0 ≡ enc (code_of depot 1) byte b x)
                (redundant (λ b. get_or stripe (b * 1 + 0) 0 ≡ enc (code_of depot 1) byte b 0)
                (sym (ap (λ l. get_or l 0 0) made)) (sym (ap (λ l. get_or l 1 0) made)) (sym (ap (λ l. get_or l 2 0) made)) b low high)
                x;
          };
        };
        len = refl;
        long = refl;
      }

-- "L = 1, data 1 2 3 4: stripe 1 2 3 4 57 98 153", whatever stood in the redundant blocks and whatever was marked lost
pub depot_stripe : (lost p q s : ℕ) (ys : List ℕ) (r : Result Standing Refusal) → Encodes depot (record { len = 1; lost = lost }) (1 ∷ 2 ∷ 3 ∷ 4 ∷ p ∷ q ∷ s ∷ []) ys r
    → (ys ≡ stripe) × (r ≡ Ok (record { len = 1; lost = 0 }))
depot_stripe lost p q s ys r h = encodes_unique h (encoding lost p q s)

-- ---- the correction

small : (j : ℕ) → get_or (5 ∷ []) j 0 < 256
small zero = omega arith
small (suc j) = omega arith

others_kept : (j : ℕ) → (j ≡ 0 → ⊥) → j < 4 → get_or corrected j 0 ≡ get_or stripe j 0
others_kept zero n h = absurd (n refl)
others_kept (suc j) n h =
    eqb→eq (get_or corrected (suc j) 0) (get_or stripe (suc j) 0)
    (below (λ j. eqb (get_or corrected (suc j) 0) (get_or stripe (suc j) 0)) 3 tt j (omega arith))

-- the coefficients of block 0
column : (row depot 4 0 ≡ 27) × (row depot 5 0 ≡ 84) × (row depot 6 0 ≡ 0)
column = (ap (entry 2) depot_rows, ap (entry 3) depot_rows, ap (entry 4) depot_rows)
  where
    entry : ℕ → List (List ℕ) → ℕ
    entry j m = get_or (get_or m j []) 0 0

-- a redundant block gets its coefficient times the difference
touched : (b : ℕ) → depot.k ≤ b → b < blocks depot → get_or corrected (b * 1 + 0) 0 ≡ get_or stripe (b * 1 + 0) 0 ⊕ mul (row depot b 0) (laid 0 (5 ∷ []) 0)
unfolding laid mul mul_bits double ◌⊕◌
touched =
    redundant (λ b. get_or corrected (b * 1 + 0) 0 ≡ get_or stripe (b * 1 + 0) 0 ⊕ mul (row depot b 0) (laid 0 (5 ∷ []) 0))
    (rw column.0 refl) (rw column.1 refl) (rw column.2 refl)

-- the correction that is accepted
correction : Corrects depot (record { len = 1; lost = 0 }) 0 0 (5 ∷ []) stripe corrected (Ok tt)
unfolding laid ◌⊕◌
correction =
    record {
      outcome = record {
        verdict = record {
          first = inr (depot_given, inr (depot_sized, inr (λ b h. marked_zero b, inr (omega (arith, depot_blocks.0), inr (marked_zero 0, inr (omega arith, refl))))));
        };
        effect = record {
          small = small;
          marks = λ b. refl;
          block = only (λ x. get_or corrected (0 * 1 + x) 0 ≡ get_or stripe (0 * 1 + x) 0 ⊕ laid 0 (5 ∷ []) x) refl;
          others = λ b x h n k. others_kept (b * 1 + x) (λ e. n (omega arith)) (omega (arith, depot_blocks.0));
          redundant = λ b x low high o.
              only (λ x. get_or corrected (b * 1 + x) 0 ≡ get_or stripe (b * 1 + x) 0 ⊕ mul (row depot b 0) (laid 0 (5 ∷ []) x)) (touched b low high) x;
          missing = λ b x low high o k. cc (marked_zero b);
        };
      };
      long = refl;
    }

-- "Difference 5 on block 0 of that stripe: 4 2 3 4 78 123 153"
pub depot_corrected : (ys : List ℕ) (r : Result (Unit {0}) Refusal) → Corrects depot (record { len = 1; lost = 0 }) 0 0 (5 ∷ []) stripe ys r
    → (ys ≡ corrected) × (r ≡ Ok tt)
depot_corrected ys r h = corrects_unique h correction
