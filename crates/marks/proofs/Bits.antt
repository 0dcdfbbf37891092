-- Proved: marks are sets. Marking inserts one block and unmarking removes one, two numbers with the same marks are one number, and `none_from` tells what
-- its name says.
use mathlib.Core.Path.{◌≡◌, refl, sym, ap, ◌∙◌}
use mathlib.Core.Bool.{Bool, true, false, not, cond}
use mathlib.Core.Logic.{◌↔◌}
use Prim.Native.Nat.{ℕ, suc, ◌+◌, ◌-◌, ◌*◌, ◌/◌, ◌%◌, ◌^◌, ◌<◌, ◌≤◌}
use native.Mathlib.Nat.{pow-le-pow_right, div-eq_of_lt, div_self, div-one, zero-div, div-div-eq-div-mul, mul-div_cancel, mod-eq_of_lt, lt-div-mul-add, one-mul, zero-mul, zero-add}
use native.Mathlib.Omega.{arith}
use native.Mathlib.Decide.{dec_lt, ℕ_discrete}
use lib.Arith.{bin_ind}
use lib.Pow.{pow_pos, pow-add}
use lib.Dec.{eqb}
use borrow.Author.Tests.{lt-ltb, ltb-true}
use Rattle.field.specs.Field.{◌⊕◌}
use Rattle.field.proofs.Xor.{⊕_shr, ⊕_odd, ⊕_zero_r, bit_cases, odd_lt}
use Rattle.linear.specs.Sets.{insert, remove}
use Rattle.linear.proofs.Sets.{in_and_out, insert_same, insert_other, remove_same, remove_other}
use Rattle.marks.specs.Marks.{marked, with_mark, without_mark, none_from}

-- ---- powers of two

pow_above : (b s : ℕ) → b < s → 2 ^ b < 2 ^ s
pow_above b s l = omega (arith, pow_pos b, pow-le-pow_right {n = 2} (omega arith) {i = suc b} {j = s} l)

-- 1 shifted by b
pub shifted_one : (b : ℕ) → b < 64 → 1 * 2 ^ b % 2 ^ 64 ≡ 2 ^ b
shifted_one b l = rw (one-mul (2 ^ b)) (mod-eq_of_lt (pow_above b 64 l))

-- the power 2 ^ b has one bit, b
pow_bit : (b : ℕ) → 2 ^ b / 2 ^ b % 2 ≡ 1
pow_bit b = rw (div_self (pow_pos b))

pow_bit_other : (b s : ℕ) → (s ≡ b → ⊥) → 2 ^ b / 2 ^ s % 2 ≡ 0
pow_bit_other b s n = at (dec_lt s b)
  where
    at : Dec (s < b) → 2 ^ b / 2 ^ s % 2 ≡ 0
    at (yes l) =
        let e : b ≡ suc (b - suc s) + s = omega arith in
        let q : 2 ^ b ≡ 2 ^ suc (b - suc s) * 2 ^ s = ap (λ (x : ℕ). 2 ^ x) e ∙ pow-add 2 (suc (b - suc s)) s in
        rw (q, mul-div_cancel (2 ^ suc (b - suc s)) (pow_pos s)) (omega arith)
    at (no l) = rw (div-eq_of_lt (pow_above b s (omega arith)))

-- ---- one bit of a sum

bit_⊕ : (m p s : ℕ) → (m ⊕ p) / 2 ^ s % 2 ≡ (m / 2 ^ s % 2) ⊕ (p / 2 ^ s % 2)
bit_⊕ m p s = rw (⊕_shr s m p) (⊕_odd (m / 2 ^ s) (p / 2 ^ s))

-- the sum with 2 ^ b turns the mark of b alone
turned : (m b : ℕ) → marked (m ⊕ 2 ^ b) b ≡ not (marked m b)
unfolding marked ◌⊕◌
turned m b = rw (bit_⊕ m (2 ^ b) b, pow_bit b) (bit_cases (λ (x : ℕ). eqb (x ⊕ 1) 1 ≡ not (eqb x 1)) refl refl (m / 2 ^ b % 2) (odd_lt (m / 2 ^ b)))

turned_other : (m b s : ℕ) → (s ≡ b → ⊥) → marked (m ⊕ 2 ^ b) s ≡ marked m s
unfolding marked
turned_other m b s n = rw (bit_⊕ m (2 ^ b) s, pow_bit_other b s n, ⊕_zero_r (m / 2 ^ s % 2))

-- ---- sets

pub marked_with : (m b s : ℕ) → marked (with_mark m b) s ≡ insert b (marked m) s
unfolding with_mark
marked_with m b s = at (marked m b) refl (ℕ_discrete s b)
  where
    at : (t : Bool) → marked m b ≡ t → Dec (s ≡ b) → marked (cond t m (m ⊕ 2 ^ b)) s ≡ insert b (marked m) s
    at true e (yes q) = rw q (e ∙ sym (insert_same b (marked m)))
    at false e (yes q) = rw q (turned m b ∙ ap not e ∙ sym (insert_same b (marked m)))
    at true e (no q) = sym (insert_other b (marked m) s q)
    at false e (no q) = turned_other m b s q ∙ sym (insert_other b (marked m) s q)

pub marked_without : (m b s : ℕ) → marked (without_mark m b) s ≡ remove b (marked m) s
unfolding without_mark
marked_without m b s = at (marked m b) refl (ℕ_discrete s b)
  where
    at : (t : Bool) → marked m b ≡ t → Dec (s ≡ b) → marked (cond t (m ⊕ 2 ^ b) m) s ≡ remove b (marked m) s
    at true e (yes q) = rw q (turned m b ∙ ap not e ∙ sym (remove_same b (marked m)))
    at false e (yes q) = rw q (e ∙ sym (remove_same b (marked m)))
    at true e (no q) = turned_other m b s q ∙ sym (remove_other b (marked m) s q)
    at false e (no q) = sym (remove_other b (marked m) s q)

-- nothing is marked in 0
pub marked_zero : (s : ℕ) → marked 0 s ≡ false
unfolding marked
marked_zero s = rw (zero-div (2 ^ s))

-- ---- the marks from a block on

-- the marks of m from n on are those of m / 2 ^ n
marked_above : (m n s : ℕ) → marked (m / 2 ^ n) s ≡ marked m (n + s)
unfolding marked
marked_above m n s = ap (λ (x : ℕ). eqb (x % 2) 1) (div-div-eq-div-mul m (2 ^ n) (2 ^ s) ∙ ap (λ (x : ℕ). m / x) (sym (pow-add 2 n s)))

marked_half : (m s : ℕ) → marked (m / 2) s ≡ marked m (1 + s)
marked_half m s = marked_above m 1 s

marked_first : (m : ℕ) → marked m 0 ≡ eqb (m % 2) 1
unfolding marked
marked_first m = ap (λ (x : ℕ). eqb (x % 2) 1) (div-one m)

-- numbers with the same first mark are even or odd alike
first_same : (a b : ℕ) → marked a 0 ≡ marked b 0 → a % 2 ≡ b % 2
first_same a b e = at (a % 2) (b % 2) (odd_lt a) (odd_lt b) (sym (marked_first a) ∙ e ∙ marked_first b)
  where
    at : (x y : ℕ) → x < 2 → y < 2 → eqb x 1 ≡ eqb y 1 → x ≡ y
    at x y h k q =
        bit_cases (λ (x : ℕ). eqb x 1 ≡ eqb y 1 → x ≡ y)
        (bit_cases (λ (y : ℕ). eqb 0 1 ≡ eqb y 1 → 0 ≡ y) (λ p. refl) (λ p. in_and_out refl (sym p)) y k)
        (bit_cases (λ (y : ℕ). eqb 1 1 ≡ eqb y 1 → 1 ≡ y) (λ p. in_and_out refl p) (λ p. refl) y k) x h q

nothing_zero : (b : ℕ) → ((s : ℕ) → marked b s ≡ false) → b ≡ 0
nothing_zero =
    bin_ind (λ (b : ℕ). ((s : ℕ) → marked b s ≡ false) → b ≡ 0) (λ h. refl)
    (λ n ih h.
    let p : n / 2 ≡ 0 = ih (λ s. marked_half n s ∙ h (1 + s)) in
    let q : n % 2 ≡ 0 % 2 = first_same n 0 (h 0 ∙ sym (marked_zero 0)) in
    omega arith)

-- marks that agree everywhere are one number
pub marked_unique : (a b : ℕ) → ((s : ℕ) → marked a s ≡ marked b s) → a ≡ b
marked_unique =
    bin_ind (λ (a : ℕ). (b : ℕ) → ((s : ℕ) → marked a s ≡ marked b s) → a ≡ b)
    (λ b h. sym (nothing_zero b (λ s. sym (h s) ∙ marked_zero s)))
    (λ n ih b h.
    let p : n / 2 ≡ b / 2 = ih (b / 2) (λ s. marked_half n s ∙ h (1 + s) ∙ sym (marked_half b s)) in
    let q : n % 2 ≡ b % 2 = first_same n b (h 0) in
    omega arith)

none_past : (m n : ℕ) → none_from m n ≡ true → (b : ℕ) → n ≤ b → marked m b ≡ false
unfolding none_from marked
none_past m n h b l =
    let q : m < 2 ^ b = omega (arith, ltb-true m (2 ^ n) h, pow-le-pow_right {n = 2} (omega arith) {i = n} {j = b} l) in
    rw (div-eq_of_lt q)

past_none : (m n : ℕ) → ((b : ℕ) → n ≤ b → marked m b ≡ false) → none_from m n ≡ true
unfolding none_from
past_none m n h =
    let z : m / 2 ^ n ≡ 0 = nothing_zero (m / 2 ^ n) (λ s. marked_above m n s ∙ h (n + s) (omega arith)) in
    let q : m < m / 2 ^ n * 2 ^ n + 2 ^ n = lt-div-mul-add (pow_pos n) in
    lt-ltb m (2 ^ n) (rw (z, zero-mul (2 ^ n), zero-add (2 ^ n)) at q)

pub none_from_lem : (m n : ℕ) → none_from m n ≡ true ↔ ((b : ℕ) → n ≤ b → marked m b ≡ false)
none_from_lem m n = (none_past m n, past_none m n)
