-- Proved: the laws of `double` and `mul` that need no table: linear in each factor, every result below 256.
use mathlib.Core.Path.{◌≡◌, refl, sym, ap, ap₂, ◌∙◌}
use mathlib.Core.Bool.{Bool}
use Prim.Native.Nat.{ℕ, zero, suc, ◌*◌, ◌/◌, ◌%◌, ◌<◌}
use native.Mathlib.Nat.{mod-eq_of_lt, zero-mul, one-mul, mul-zero}
use native.Mathlib.Omega.{arith}
use lib.Pow as Pow
use lib.Dec.{T, eqb, eqb→eq}
use Rattle.field.specs.Field.{◌⊕◌, double, mul_bits, mul}
use Rattle.field.proofs.Table.{all, below}
use Rattle.field.proofs.Xor.{⊕_zero_l, ⊕_self, ⊕_swap, ⊕_shr, ⊕_odd, ⊕_low, ⊕_half, ⊕_lt, ⊕_double, ⊕_scale, bits_scale, odd_lt, bit_cases}

-- ---- double

pub double_lt : (a : ℕ) → double a < 256
unfolding double
double_lt a = ⊕_lt {a = a * 2 % 256} {b = a / 128 % 2 * 29} (omega arith) (omega arith)

pub double_zero : double 0 ≡ 0
unfolding double ◌⊕◌
double_zero = refl

double_one : double 1 ≡ 2
unfolding double ◌⊕◌
double_one = refl

pub double_add : (a b : ℕ) → double (a ⊕ b) ≡ double a ⊕ double b
unfolding double
double_add a b =
    ap₂ ◌⊕◌
    (ap (λ (x : ℕ). x % 256) (⊕_double a b) ∙ ⊕_low (a * 2) (b * 2))
    (ap (λ (x : ℕ). x % 2 * 29) (⊕_shr 7 a b) ∙ ap (λ (x : ℕ). x * 29) (⊕_odd (a / 128) (b / 128)) ∙ bits_scale (a / 128 % 2) (b / 128 % 2) 29 (odd_lt (a / 128)) (odd_lt (b / 128)))
    ∙ ⊕_swap (a * 2 % 256) (b * 2 % 256) (a / 128 % 2 * 29) (b / 128 % 2 * 29)

-- only the 8 low bits count
pub double_low : (a : ℕ) → double (a % 256) ≡ double a
unfolding double
double_low a =
    let p : a % 256 * 2 % 256 ≡ a * 2 % 256 = omega arith in
    let h : a % 256 / 128 ≡ a / 128 % 2 = Pow.field a 1 7 in
    let q : a % 256 / 128 % 2 ≡ a / 128 % 2 = omega arith in
    ap₂ (λ (x y : ℕ). x ⊕ (y * 29)) p q

double_bit : (x a : ℕ) → x < 2 → double (x * a) ≡ x * double a
double_bit x a h =
    bit_cases (λ (x : ℕ). double (x * a) ≡ x * double a)
    (simp (zero-mul, double_zero))
    (simp one-mul) x h

-- ---- mulBits

bits_zero_l : (n b : ℕ) → mul_bits n 0 b ≡ 0
unfolding mul_bits
bits_zero_l zero b = refl
bits_zero_l (suc n) b = simp (mul-zero, double_zero, ⊕_zero_l) (bits_zero_l n (b / 2))

bits_zero_r : (n a : ℕ) → mul_bits n a 0 ≡ 0
unfolding mul_bits
bits_zero_r zero a = refl
bits_zero_r (suc n) a = simp (zero-mul, ⊕_zero_l) (bits_zero_r n (double a))

bits_lt : (n a b : ℕ) → a < 256 → mul_bits n a b < 256
unfolding mul_bits
bits_lt zero a b h = omega arith
bits_lt (suc n) a b h =
    ⊕_lt
    (bit_cases (λ (x : ℕ). x * a < 256) (omega arith) (omega arith) (b % 2) (odd_lt b))
    (bits_lt n (double a) (b / 2) (double_lt a))

bits_double : (n a b : ℕ) → mul_bits n (double a) b ≡ double (mul_bits n a b)
unfolding mul_bits
bits_double zero a b = sym double_zero
bits_double (suc n) a b =
    ap₂ ◌⊕◌ (sym (double_bit (b % 2) a (odd_lt b))) (bits_double n (double a) (b / 2))
    ∙ sym (double_add (b % 2 * a) (mul_bits n (double a) (b / 2)))

bits_add_l : (n a a' b : ℕ) → mul_bits n (a ⊕ a') b ≡ mul_bits n a b ⊕ mul_bits n a' b
unfolding mul_bits
bits_add_l zero a a' b = sym (⊕_self 0)
bits_add_l (suc n) a a' b =
    ap₂ ◌⊕◌ (⊕_scale (b % 2) a a' (odd_lt b))
    (ap (λ (x : ℕ). mul_bits n x (b / 2)) (double_add a a') ∙ bits_add_l n (double a) (double a') (b / 2))
    ∙ ⊕_swap (b % 2 * a) (b % 2 * a') (mul_bits n (double a) (b / 2)) (mul_bits n (double a') (b / 2))

bits_add_r : (n a b b' : ℕ) → mul_bits n a (b ⊕ b') ≡ mul_bits n a b ⊕ mul_bits n a b'
unfolding mul_bits
bits_add_r zero a b b' = sym (⊕_self 0)
bits_add_r (suc n) a b b' =
    ap₂ ◌⊕◌ (ap (λ (x : ℕ). x * a) (⊕_odd b b') ∙ bits_scale (b % 2) (b' % 2) a (odd_lt b) (odd_lt b'))
    (ap (mul_bits n (double a)) (⊕_half b b') ∙ bits_add_r n (double a) (b / 2) (b' / 2))
    ∙ ⊕_swap (b % 2 * a) (b' % 2 * a) (mul_bits n (double a) (b / 2)) (mul_bits n (double a) (b' / 2))

-- ---- mul

pub mul_lt : (a b : ℕ) → mul a b < 256
unfolding mul
mul_lt a b = bits_lt 8 (a % 256) (b % 256) (omega arith)

pub mul_zero_l : (b : ℕ) → mul 0 b ≡ 0
unfolding mul
mul_zero_l b = bits_zero_l 8 (b % 256)

pub mul_zero_r : (a : ℕ) → mul a 0 ≡ 0
unfolding mul
mul_zero_r a = bits_zero_r 8 (a % 256)

low_low : (a : ℕ) → a % 256 % 256 ≡ a % 256
low_low a = omega arith

pub mul_low_l : (a b : ℕ) → mul (a % 256) b ≡ mul a b
unfolding mul
mul_low_l a b = ap (λ (x : ℕ). mul_bits 8 x (b % 256)) (low_low a)

pub mul_low_r : (a b : ℕ) → mul a (b % 256) ≡ mul a b
unfolding mul
mul_low_r a b = ap (mul_bits 8 (a % 256)) (low_low b)

pub mul_add_l : (a a' b : ℕ) → mul (a ⊕ a') b ≡ mul a b ⊕ mul a' b
unfolding mul
mul_add_l a a' b = ap (λ (x : ℕ). mul_bits 8 x (b % 256)) (⊕_low a a') ∙ bits_add_l 8 (a % 256) (a' % 256) (b % 256)

pub mul_add_r : (a b b' : ℕ) → mul a (b ⊕ b') ≡ mul a b ⊕ mul a b'
unfolding mul
mul_add_r a b b' = ap (mul_bits 8 (a % 256)) (⊕_low b b') ∙ bits_add_r 8 (a % 256) (b % 256) (b' % 256)

pub mul_double : (a b : ℕ) → mul (double a) b ≡ double (mul a b)
unfolding mul
mul_double a b =
    ap (λ (x : ℕ). mul_bits 8 x (b % 256)) (mod-eq_of_lt (double_lt a) ∙ sym (double_low a))
    ∙ bits_double 8 (a % 256) (b % 256)

-- 1 times b, at each of the 256 elements: a test that antt computes
unit_test : ℕ → Bool
unit_test k = eqb (mul_bits 8 1 k) k

unit_all : T (all unit_test 256)
unfolding unit_test mul_bits double ◌⊕◌
unit_all = tt

unit_at : (k : ℕ) → k < 256 → mul_bits 8 1 k ≡ k
unfolding unit_test
unit_at k h = eqb→eq (mul_bits 8 1 k) k (below unit_test 256 unit_all k h)

pub mul_one_low : (b : ℕ) → mul 1 b ≡ b % 256
unfolding mul
mul_one_low b = unit_at (b % 256) (omega arith)

pub mul_one_l : (b : ℕ) → b < 256 → mul 1 b ≡ b
mul_one_l b h = mul_one_low b ∙ mod-eq_of_lt h

-- the product with 2
pub mul_two : (b : ℕ) → mul 2 b ≡ double b
mul_two b = ap (λ (x : ℕ). mul x b) (sym double_one) ∙ mul_double 1 b ∙ ap double (mul_one_low b) ∙ double_low b
