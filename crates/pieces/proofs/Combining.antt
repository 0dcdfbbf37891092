-- Proved: what the steps of a combination of blocks leave.
use mathlib.Core.List.{List, ◌++◌}
use mathlib.Core.Path.{◌≡◌, refl, sym, ap, ap₂, ◌∙◌}
use Prim.Native.Nat.{ℕ, ◌+◌, ◌*◌, ◌-◌, ◌<◌, ◌≤◌}
use native.Mathlib.Nat.{zero-add}
use native.Mathlib.Numerals.{add-one}
use native.Mathlib.Omega.{arith}
use native.Mathlib.Decide.{dec_lt, ℕ_discrete}
use borrow.Rule.Slice.PartMut.{put_mid}
use lib.ListN.{length, get_or, take, drop, length-take, length-drop}
use Rattle.std.proofs.Math.Seq.{take-append_seam}
use Rattle.field.specs.Field.{◌⊕◌, mul}
use Rattle.field.specs.Scaled.{scaled_add}
use Rattle.field.proofs.Xor.{⊕_assoc, ⊕_zero_l, ⊕_zero_r}
use Rattle.field.proofs.Product.{mul_zero_l}
use Rattle.field.proofs.Scaled.{scaled_length, scaled_at}
use Rattle.linear.specs.Sums.{sum_to}
use Rattle.linear.specs.Combinations.{comb}
use Rattle.linear.specs.Solved.{vec}
use Rattle.linear.proofs.Sums.{sum_cong}
use Rattle.linear.proofs.Vectors.{get_d_part, put_length, put_before, put_within, put_after}
use Rattle.calls.specs.Calls.{byte_of}
use Rattle.pieces.specs.Pieces.{Sources, Added, Combined, Gathered, Made}
use Rattle.pieces.proofs.Blocks.{under, add_zero_times}

-- ---- what a combination reads

-- blocks whose coefficient is zero do not count
pub comb_agree : (n : ℕ) (c : ℕ → ℕ) (R Q : ℕ → ℕ → ℕ) (x : ℕ) → ((s : ℕ) → s < n → (c s ≡ 0 → ⊥) → R s x ≡ Q s x)
    → comb n c R x ≡ comb n c Q x
unfolding comb
comb_agree n c R Q x h = sum_cong n (λ s l. at s l (ℕ_discrete (c s) 0))
  where
    at : (s : ℕ) → s < n → Dec (c s ≡ 0) → mul (c s) (R s x) ≡ mul (c s) (Q s x)
    at s l (yes z) = rw z (mul_zero_l (R s x) ∙ sym (mul_zero_l (Q s x)))
    at s l (no z) = ap (mul (c s)) (h s l z)

-- coefficients that are zero from m on ask for the first m blocks
pub sources : {coef xs : List ℕ} {len : ℕ} (m : ℕ) → ((s : ℕ) → m ≤ s → s < length coef → get_or coef s 0 ≡ 0)
    → m * len ≤ length xs → Sources xs coef len
sources {coef} {xs} {len} m z k = record { inside = λ s l n. at s l n (dec_lt s m) }
  where
    at : (s : ℕ) → s < length coef → (get_or coef s 0 ≡ 0 → ⊥) → Dec (s < m) → s * len + len ≤ length xs
    at s l n (yes j) = omega (arith, under len s m j)
    at s l n (no j) = absurd (n (z s (omega arith) l))

-- ---- a turn of `combine`

-- a block whose coefficient is zero adds nothing
pub added_none : (coef xs : List ℕ) (len from s : ℕ) (acc : List ℕ) → get_or coef s 0 ≡ 0 → Added coef xs len from s acc acc
added_none coef xs len from s acc z =
    record { long = refl; at = λ x l. sym (add_zero_times (get_or acc x 0) (get_or coef s 0) (byte_of len xs s (from + x)) z) }

pub added : (coef xs : List ℕ) (len from s : ℕ) (acc : List ℕ) → s * len + from + length acc ≤ length xs
    → Added coef xs len from s acc
    (scaled_add acc (get_or coef s 0) (take (s * len + from + length acc - (s * len + from)) (drop (s * len + from) xs)))
added coef xs len from s acc h =
    record {
      long = scaled_length acc f part;
      at = λ x l.
          let e : s * len + from + x ≡ s * len + (from + x) = omega arith in
          scaled_at acc f part fits x
          ∙ ap (λ (y : ℕ). get_or acc x 0 ⊕ mul f y) (get_d_part xs a (a + length acc - a) x (omega arith) ∙ ap (vec xs) e);
    }
  where
    f : ℕ
    f = get_or coef s 0

    a : ℕ
    a = s * len + from

    part : List ℕ
    part = take (a + length acc - a) (drop a xs)

    fits : length part ≤ length acc
    fits = simp (length-take, length-drop) (omega arith)

-- ---- `combine`

pub combined_none : (coef xs : List ℕ) (len from : ℕ) (acc : List ℕ) → Combined coef xs len from 0 acc acc
unfolding comb sum_to
combined_none coef xs len from acc = record { long = refl; at = λ x l. sym (⊕_zero_r (get_or acc x 0)) }

-- one block more
pub combined_more : {coef xs : List ℕ} {len from s : ℕ} {acc r t : List ℕ} → Combined coef xs len from s acc r → Added coef xs len from s r t
    → Combined coef xs len from (s + 1) acc t
unfolding comb sum_to
combined_more {coef} {xs} {len} {from} {s} {acc} {r} {t} C A =
    record {
      long = A.long ∙ C.long;
      at = λ x l. rw (add-one s)
          (A.at x (omega (arith, C.long)) ∙ ap (λ (y : ℕ). y ⊕ term x) (C.at x l)
          ∙ ⊕_assoc (get_or acc x 0) (comb s (vec coef) (byte_of len xs) (from + x)) (term x));
    }
  where
    term : ℕ → ℕ
    term x = mul (get_or coef s 0) (byte_of len xs s (from + x))

-- ---- `gather`

-- onto zeros
pub gathered : {coef xs acc r : List ℕ} (len : ℕ) → length acc ≡ len → ((x : ℕ) → x < len → get_or acc x 0 ≡ 0)
    → Combined coef xs len 0 (length coef) acc r → Gathered coef xs len r
gathered {coef} {xs} {acc} {r} len long none C =
    record {
      long = C.long ∙ long;
      at = λ x h. C.at x (omega (arith, long)) ∙ ap₂ ◌⊕◌ (none x h) (ap whole (zero-add x)) ∙ ⊕_zero_l (whole x);
    }
  where
    whole : ℕ → ℕ
    whole = comb (length coef) (vec coef) (byte_of len xs)

-- ---- `make`

-- what is made beside the stripe is copied in as block b
pub copied_in : {coef xs made block : List ℕ} (len b : ℕ) (beside : List ℕ) → Gathered coef xs len made → b * len + len ≤ length xs
    → block ≡ take len (made ++ beside) → Made coef len b xs (put_mid (b * len) (b * len + len - b * len) xs block)
copied_in {coef} {xs} {made} {block} len b beside G h e =
    record {
      long = put_length xs block a k room long;
      block = λ x i. put_within xs block a k room long x (omega arith) ∙ ap (λ (u : List ℕ). get_or u x 0) same ∙ G.at x i;
      before = λ p i. put_before xs block a k room long p i;
      after = λ p i. put_after xs block a k room long p (omega arith);
    }
  where
    a : ℕ
    a = b * len

    k : ℕ
    k = b * len + len - b * len

    same : block ≡ made
    same = e ∙ ap (λ (n : ℕ). take n (made ++ beside)) (sym G.long) ∙ take-append_seam made beside

    room : a + k ≤ length xs
    room = omega arith

    long : length block ≡ k
    long = omega (arith, G.long, ap length same)
