-- Proved: how parts of lists read as slots, rows and expressions, and what each step of the elimination leaves of them.
use mathlib.Core.List.{List, ◌++◌}
use mathlib.Core.Logic.{inl, inr}
use mathlib.Core.Path.{◌≡◌, refl, sym, ap, ap₂, ◌∙◌}
use Prim.Native.Nat.{ℕ, zero, suc, ◌+◌, ◌*◌, ◌-◌, ◌<◌, ◌≤◌}
use native.Mathlib.Numerals.{add-one}
use native.Mathlib.Omega.{arith}
use native.Mathlib.Decide.{dec_lt, ℕ_discrete}
use borrow.Rule.Slice.PartMut.{put_mid}
use lib.ListN.{length, get_or, take, drop, set, replicate, length-set, length-append, length-take, length-drop, get_or-append, get_or-eq_default}
use lib.Seq.{get_or-take, get_or-drop, get_or-set_same, get_or-set_other, get_or-append-add}
use Rattle.field.specs.Field.{◌⊕◌, mul, inv}
use Rattle.field.specs.Scaled.{scaled_add}
use Rattle.field.proofs.Xor.{⊕_zero_l}
use Rattle.field.proofs.Product.{mul_lt}
use Rattle.field.proofs.Scaled.{scaled_length, scaled_at}
use Rattle.std.specs.Prelude.{Some, None, Bool, true, false, not, ◌==◌, position}
use Rattle.std.proofs.lemmas.Bool.Decides.{nat_tests}
use Rattle.std.proofs.lemmas.List.Quantifiers.{position-Some}
use Rattle.std.proofs.lemmas.List.Sums.{fails_before_first}
use Rattle.std.specs.List.{position_or_len}
use Rattle.linear.specs.Sums.{put}
use Rattle.linear.specs.Reduction.{red, Triangular}
use Rattle.linear.specs.Solved.{vec, row_of}
use Rattle.linear.specs.Slots.{slot, pivot, blank, Filled, Leading, Shape, Reduced, Absorbed}
use Rattle.linear.specs.declared.Slot.{Slot}
use Rattle.linear.proofs.Sums.{put_same, put_other, put_none}
use Rattle.linear.proofs.Reduction.{room}

pub zeros_at : (n i : ℕ) → ◌≡◌ {A = ℕ} (get_or (replicate n 0) i 0) 0
zeros_at zero i = refl
zeros_at (suc n) zero = refl
zeros_at (suc n) (suc i) = zeros_at n i

-- ---- a part that is lent for reading

pub get_d_part : (xs : List ℕ) (a k i : ℕ) → i < k → get_or (take k (drop a xs)) i 0 ≡ get_or xs (a + i) 0
get_d_part xs a k i l = get_or-take k (drop a xs) i 0 l ∙ get_or-drop a xs i 0

-- the part from s * 32 to s * 32 + 32 is row s
pub row_part : (xs : List ℕ) (s i : ℕ) → i < 32 → get_or (take (s * 32 + 32 - s * 32) (drop (s * 32) xs)) i 0 ≡ row_of xs s i
row_part xs s i l = get_d_part xs (s * 32) (s * 32 + 32 - s * 32) i (omega arith)

-- ---- a part that is lent for writing, and comes back as ys

module _ (xs ys : List ℕ) (a k : ℕ) (l : a + k ≤ length xs) (e : length ys ≡ k) where
  start : length (take a xs) ≡ a
  start = rw length-take (omega arith)

  pub put_length : length (put_mid a k xs ys) ≡ length xs
  put_length = simp (length-append, length-take, length-drop) (omega arith)

  pub put_before : (j : ℕ) → j < a → get_or (put_mid a k xs ys) j 0 ≡ get_or xs j 0
  put_before j h = get_or-append (take a xs) (ys ++ drop k (drop a xs)) 0 j (rw start h) ∙ get_or-take a xs j 0 h

  pub put_within : (i : ℕ) → i < k → get_or (put_mid a k xs ys) (a + i) 0 ≡ get_or ys i 0
  put_within i h =
      ap (λ (n : ℕ). get_or (put_mid a k xs ys) (n + i) 0) (sym start)
      ∙ get_or-append-add (take a xs) (ys ++ drop k (drop a xs)) i 0
      ∙ get_or-append ys (drop k (drop a xs)) 0 i (rw e h)

  pub put_after : (j : ℕ) → a + k ≤ j → get_or (put_mid a k xs ys) j 0 ≡ get_or xs j 0
  put_after j h =
      let p : j ≡ a + (k + (j - (a + k))) = omega arith in
      ap (λ (n : ℕ). get_or (put_mid a k xs ys) n 0) p
      ∙ ap (λ (n : ℕ). get_or (put_mid a k xs ys) (n + (k + (j - (a + k)))) 0) (sym start)
      ∙ get_or-append-add (take a xs) (ys ++ drop k (drop a xs)) (k + (j - (a + k))) 0
      ∙ ap (λ (n : ℕ). get_or (ys ++ drop k (drop a xs)) (n + (j - (a + k))) 0) (sym e)
      ∙ get_or-append-add ys (drop k (drop a xs)) (j - (a + k)) 0
      ∙ get_or-drop k (drop a xs) (j - (a + k)) 0
      ∙ get_or-drop a xs (k + (j - (a + k))) 0
      ∙ ap (λ (n : ℕ). get_or xs n 0) (sym p)

-- ---- a scaled addition to zeros

-- leaves the multiple
pub scaled_onto_zeros : (d : List ℕ) (c : ℕ) (s : List ℕ) → length s ≤ length d → ((i : ℕ) → get_or d i 0 ≡ 0)
    → (i : ℕ) → get_or (scaled_add d c s) i 0 ≡ mul c (get_or s i 0)
scaled_onto_zeros d c s l z i = scaled_at d c s l i ∙ ap (λ (x : ℕ). x ⊕ mul c (get_or s i 0)) (z i) ∙ ⊕_zero_l (mul c (get_or s i 0))

-- ---- `vector`

-- a row with 48 zeros behind it, and e at block b
module _ (row zs : List ℕ) (l : length row ≡ 32) (m : length zs ≡ 48) (z : (i : ℕ) → get_or zs i 0 ≡ 0) (b e : ℕ) (h : b < 48) where
  pub filled : Filled row b e (set (row ++ zs) (32 + b) e)
  filled =
      record {
        len = length-set (row ++ zs) (32 + b) e ∙ long;
        row_part = λ i k. get_or-set_other (row ++ zs) (32 + b) i e 0 (omega arith) ∙ get_or-append row zs 0 i (rw l k);
        unit_part = λ s k. at s (ℕ_discrete s b);
      }
    where
      long : length (row ++ zs) ≡ 80
      long = rw (length-append, l, m) refl

      at : (s : ℕ) → Dec (s ≡ b) → get_or (set (row ++ zs) (32 + b) e) (32 + s) 0 ≡ put b e (λ _. 0) s
      at s (yes q) = rw q (get_or-set_same (row ++ zs) (32 + b) e 0 (omega (arith, long)) ∙ sym (put_same b e (λ _. 0)))
      at s (no q) =
          get_or-set_other (row ++ zs) (32 + b) (32 + s) e 0 (omega arith)
          ∙ ap (λ (n : ℕ). get_or (row ++ zs) (n + s) 0) (sym l)
          ∙ get_or-append-add row zs s 0
          ∙ z s
          ∙ sym (put_other b e (λ _. 0) s q)

-- ---- `first`

abbrev pub is_some_byte : ℕ → Bool
is_some_byte x = not (x == 0)

byte_none : (x : ℕ) → is_some_byte x ≡ false → x ≡ 0
byte_none x e = grind (arith, nat_tests)

byte_some : (x : ℕ) → is_some_byte x ≡ true → 0 < x
byte_some x e = grind (arith, nat_tests)

-- what `position` finds among the first 32 bytes
module _ (v : List ℕ) (l : 32 ≤ length v) where
  long : length (take 32 v) ≡ 32
  long = rw length-take (omega arith)

  pub leading : {i : ℕ} → Some i ≡ position is_some_byte (take 32 v) → Leading v i
  leading {i} e =
      let found = position-Some is_some_byte (take 32 v) i 0 (sym e) in
      let within : i < 32 = omega (arith, found.0, long) in
      record {
        within = within;
        none = λ k h. sym (get_or-take 32 v k 0 (omega arith)) ∙ byte_none (get_or (take 32 v) k 0) (found.2 k h);
        some = rw (get_or-take 32 v i 0 within) at (byte_some (get_or (take 32 v) i 0) found.1);
      }

  pub row_zero : None ≡ position is_some_byte (take 32 v) → (k : ℕ) → k < 32 → get_or v k 0 ≡ 0
  row_zero e k h =
      let past : length (take 32 v) ≤ position_or_len is_some_byte (take 32 v) = grind (arith, nat_tests) in
      sym (get_or-take 32 v k 0 h)
      ∙ byte_none (get_or (take 32 v) k 0) (fails_before_first is_some_byte (take 32 v) k 0 (omega (arith, long)))

-- a vector of a row of bytes and an empty expression is one of bytes
pub filled_byte : {row v : List ℕ} {b : ℕ} → Filled row b 0 v → ((k : ℕ) → get_or row k 0 < 256) → (k : ℕ) → get_or v k 0 < 256
filled_byte {row} {v} {b} f h k = at (dec_lt k 32) (dec_lt k 80)
  where
    at : Dec (k < 32) → Dec (k < 80) → get_or v k 0 < 256
    at (yes l) m = rw (f.row_part k l) (h k)
    at (no l) (yes m) =
        let e : 32 + (k - 32) ≡ k = omega arith in
        let z : get_or v (32 + (k - 32)) 0 ≡ 0 = f.unit_part (k - 32) (omega arith) ∙ put_none b (k - 32) in
        omega (arith, ap (vec v) e)
    at (no l) (no m) = omega (arith, get_or-eq_default v 0 {n = k} (omega (arith, f.len)))

-- ---- slots that are not in use

slots_zero : (n p i : ℕ) → slot (replicate n (record { vector = replicate 80 0; pivot = 0 })) p i ≡ 0
slots_zero zero p i = refl
slots_zero (suc n) zero i = zeros_at 80 i
slots_zero (suc n) (suc p) i = slots_zero n p i

pivots_zero : (n p : ℕ) → pivot (replicate n (record { vector = replicate 80 0; pivot = 0 })) p ≡ 0
pivots_zero zero p = refl
pivots_zero (suc n) zero = refl
pivots_zero (suc n) (suc p) = pivots_zero n p

pub shape_none : Shape (replicate 32 (record { vector = replicate 80 0; pivot = 0 })) 0
shape_none =
    record {
      long = refl;
      most = omega arith;
      low = λ p l. absurd (omega arith);
      byte = λ p i. omega (arith, slots_zero 32 p i);
      fresh = λ p i l. slots_zero 32 p i;
      fresh_col = λ p l. pivots_zero 32 p;
    }

-- ---- `reduce`

pub reduced_none : (v : List ℕ) (slots : List Slot) → length v ≡ 80 → Reduced v slots 0 v
unfolding red
reduced_none v slots l = record { len = l; at = λ i k. refl }

-- one slot more, s, is taken out
pub reduced_more : {v r : List ℕ} {slots : List Slot} {p : ℕ} {s : Slot} → s ≡ get_or slots p blank → s.pivot < 80 → length s.vector ≤ 80
    → Reduced v slots p r → Reduced v slots (p + 1) (scaled_add r (get_or r s.pivot 0) s.vector)
unfolding red
reduced_more {v} {r} {slots} {p} {s} e l m x =
    record { len = scaled_length r c s.vector ∙ x.len; at = λ i k. rw (add-one p) (at i k) }
  where
    c : ℕ
    c = get_or r s.pivot 0

    at : (i : ℕ) → i < 80 → get_or (scaled_add r c s.vector) i 0 ≡ red (slot slots) (pivot slots) (suc p) (vec v) i
    at i k =
        scaled_at r c s.vector (omega (arith, x.len)) i
        ∙ ap₂ ◌⊕◌ (x.at i k)
        (ap₂ mul (x.at s.pivot l ∙ ap (λ (y : Slot). red (slot slots) (pivot slots) p (vec v) y.pivot) e) (ap (λ (y : Slot). get_or y.vector i 0) e))

-- ---- `absorb`

-- where something of the row is left, a slot is free
pub slot_free : {v r : List ℕ} {slots : List Slot} {count i : ℕ} → Triangular 32 (slot slots) (pivot slots) count → ((k : ℕ) → get_or v k 0 < 256)
    → Reduced v slots count r → Leading r i → count < 32
slot_free {v} {r} {slots} {count} {i} T vb x f =
    room 32 (slot slots) (pivot slots) (vec v) vb count T i f.within (rw (x.at i (omega (arith, f.within))) at f.some)

module _ {v r : List ℕ} {slots : List Slot} {count : ℕ} (x : Reduced v slots count r) (s : Shape slots count) where
  pub dropped : ((k : ℕ) → k < 32 → get_or r k 0 ≡ 0) → Absorbed v slots count slots count
  dropped f =
      record {
        shape = s;
        either = inl (record { count_same = refl; slots_same = refl; zeros = λ j k. sym (x.at j (omega arith)) ∙ f j k });
      }

  -- the multiple c of r is written onto zeros
  module _ {c i : ℕ} (f : Leading r i) (m : count < 32) (e : c ≡ inv (get_or r i 0)) (zs : List ℕ) (n : length zs ≡ 80)
      (z : (k : ℕ) → get_or zs k 0 ≡ 0) where
    one : Slot
    one = record { vector = scaled_add zs c r; pivot = i }

    new : (j : ℕ) → get_or (scaled_add zs c r) j 0 ≡ mul c (get_or r j 0)
    new j = scaled_onto_zeros zs c r (omega (arith, n, x.len)) z j

    here : get_or (set slots count one) count blank ≡ one
    here = get_or-set_same slots count one blank (omega (arith, s.long))

    there : (p : ℕ) → (p ≡ count → ⊥) → get_or (set slots count one) p blank ≡ get_or slots p blank
    there p q = get_or-set_other slots count p one blank q

    low : (p : ℕ) → p < count + 1 → Dec (p ≡ count) → pivot (set slots count one) p < 32
    unfolding one
    low p h (yes q) = omega (arith, ap (pivot (set slots count one)) q, ap (λ (y : Slot). y.pivot) here, f.within)
    low p h (no q) = omega (arith, ap (λ (y : Slot). y.pivot) (there p q), s.low p (omega arith))

    byte : (p j : ℕ) → Dec (p ≡ count) → slot (set slots count one) p j < 256
    unfolding one
    byte p j (yes q) =
        omega (arith, ap (λ (k : ℕ). slot (set slots count one) k j) q, ap (λ (y : Slot). get_or y.vector j 0) here, new j, mul_lt c (get_or r j 0))
    byte p j (no q) = rw (there p q) (s.byte p j)

    pub stored : Absorbed v slots count (set slots count (record { vector = scaled_add zs c r; pivot = i })) (count + 1)
    unfolding one
    stored =
        record {
          shape = record {
            long = length-set slots count one ∙ s.long;
            most = omega arith;
            low = λ p h. low p h (ℕ_discrete p count);
            byte = λ p j. byte p j (ℕ_discrete p count);
            fresh = λ p j h. ap (λ (y : Slot). get_or y.vector j 0) (there p (omega arith)) ∙ s.fresh p j (omega arith);
            fresh_col = λ p h. ap (λ (y : Slot). y.pivot) (there p (omega arith)) ∙ s.fresh_col p (omega arith);
          };
          either = inr (record {
            count_more = refl;
            col = i;
            within = f.within;
            some = rw (x.at i (omega (arith, f.within))) at f.some;
            old = λ p j h q. ap (λ (y : Slot). get_or y.vector j 0) (there p (omega arith));
            old_col = λ p h. ap (λ (y : Slot). y.pivot) (there p (omega arith));
            new = λ j q. ap (λ (y : Slot). get_or y.vector j 0) here ∙ new j
                ∙ ap₂ mul (e ∙ ap inv (x.at i (omega (arith, f.within)))) (x.at j q);
            new_col = ap (λ (y : Slot). y.pivot) here;
          });
        }
