-- Proved: the laws of finite sums in the field, and of a function changed at one place.
use mathlib.Core.Path.{◌≡◌, refl, sym, ap, ap₂, ◌∙◌}
use mathlib.Core.Bool.{Bool, true, false, cond}
use Prim.Native.Nat.{ℕ, zero, suc, ◌<◌, ◌≤◌}
use native.Mathlib.Omega.{arith}
use native.Mathlib.Decide.{dec_lt, ℕ_discrete}
use lib.Dec.{eqb}
use borrow.Author.Tests.{eq-eqb, ne_eqb, eqb-true}
use Rattle.field.specs.Field.{◌⊕◌, mul}
use Rattle.field.proofs.Xor.{⊕_zero_l, ⊕_zero_r, ⊕_lt, ⊕_swap}
use Rattle.field.proofs.Product.{mul_zero_r, mul_add_r}
use Rattle.field.proofs.Laws.{mul_comm}
use Rattle.linear.specs.Sums.{sum_to, put, unit}

pub sum_cong : (m : ℕ) {f g : ℕ → ℕ} → ((j : ℕ) → j < m → f j ≡ g j) → sum_to m f ≡ sum_to m g
unfolding sum_to
sum_cong zero h = refl
sum_cong (suc m) h = ap₂ ◌⊕◌ (sum_cong m (λ j l. h j (omega arith))) (h m (omega arith))

pub sum_zero : (m : ℕ) (f : ℕ → ℕ) → ((j : ℕ) → j < m → f j ≡ 0) → sum_to m f ≡ 0
unfolding sum_to
sum_zero zero f h = refl
sum_zero (suc m) f h = ap₂ ◌⊕◌ (sum_zero m f (λ j l. h j (omega arith))) (h m (omega arith)) ∙ ⊕_zero_r 0

pub sum_⊕ : (m : ℕ) (f g : ℕ → ℕ) → sum_to m (λ j. f j ⊕ g j) ≡ sum_to m f ⊕ sum_to m g
unfolding sum_to
sum_⊕ zero f g = sym (⊕_zero_r 0)
sum_⊕ (suc m) f g = ap (λ (x : ℕ). x ⊕ (f m ⊕ g m)) (sum_⊕ m f g) ∙ ⊕_swap (sum_to m f) (sum_to m g) (f m) (g m)

pub sum_lt : (m : ℕ) (f : ℕ → ℕ) → ((j : ℕ) → j < m → f j < 256) → sum_to m f < 256
unfolding sum_to
sum_lt zero f h = omega arith
sum_lt (suc m) f h = ⊕_lt (sum_lt m f (λ j l. h j (omega arith))) (h m (omega arith))

-- two sums change places
pub sum_swap : (m n : ℕ) (f : ℕ → ℕ → ℕ) → sum_to m (λ j. sum_to n (λ k. f j k)) ≡ sum_to n (λ k. sum_to m (λ j. f j k))
unfolding sum_to
sum_swap zero n f = sym (sum_zero n (λ _. 0) (λ j l. refl))
sum_swap (suc m) n f =
    ap (λ (x : ℕ). x ⊕ sum_to n (f m)) (sum_swap m n f) ∙ sym (sum_⊕ n (λ k. sum_to m (λ j. f j k)) (f m))

-- a sum of which only one term is not zero
pub sum_single : (m q : ℕ) (f : ℕ → ℕ) → q < m → ((j : ℕ) → j < m → (j ≡ q → ⊥) → f j ≡ 0) → sum_to m f ≡ f q
unfolding sum_to
sum_single zero q f l h = absurd (omega arith)
sum_single (suc m) q f l h =
    at (sum_single m q f) (dec_lt q m)
  where
    at : (q < m → ((j : ℕ) → j < m → (j ≡ q → ⊥) → f j ≡ 0) → sum_to m f ≡ f q) → Dec (q < m) → sum_to m f ⊕ f m ≡ f q
    at ih (yes b) = ap₂ ◌⊕◌ (ih b (λ j k. h j (omega arith))) (h m (omega arith) (omega arith)) ∙ ⊕_zero_r (f q)
    at ih (no b) =
        let e : m ≡ q = omega arith in
        ap₂ ◌⊕◌ (sum_zero m f (λ j k. h j (omega arith) (omega arith))) (ap f e) ∙ ⊕_zero_l (f q)

-- a longer sum whose further terms are zero
pub sum_less : (m k : ℕ) (f : ℕ → ℕ) → m ≤ k → ((j : ℕ) → m ≤ j → j < k → f j ≡ 0) → sum_to k f ≡ sum_to m f
unfolding sum_to
sum_less m zero f l h = let e : m ≡ 0 = omega arith in rw e
sum_less m (suc k) f l h = at (λ o. sum_less m k f o (λ j a b. h j a (omega arith))) (dec_lt k m)
  where
    at : (m ≤ k → sum_to k f ≡ sum_to m f) → Dec (k < m) → sum_to (suc k) f ≡ sum_to m f
    at ih (yes b) = let e : suc k ≡ m = omega arith in ap (λ (x : ℕ). sum_to x f) e
    at ih (no b) = ap₂ ◌⊕◌ (ih (omega arith)) (h k (omega arith) (omega arith)) ∙ ⊕_zero_r (sum_to m f)

pub sum_scale : (a m : ℕ) (f : ℕ → ℕ) → mul a (sum_to m f) ≡ sum_to m (λ j. mul a (f j))
unfolding sum_to
sum_scale a zero f = mul_zero_r a
sum_scale a (suc m) f = mul_add_r a (sum_to m f) (f m) ∙ ap (λ (x : ℕ). x ⊕ mul a (f m)) (sum_scale a m f)

pub sum_scale_r : (m : ℕ) (f : ℕ → ℕ) (a : ℕ) → sum_to m (λ j. mul (f j) a) ≡ mul (sum_to m f) a
sum_scale_r m f a = sum_cong m (λ j l. mul_comm (f j) a) ∙ sym (sum_scale a m f) ∙ mul_comm a (sum_to m f)

-- ---- one index apart

pub put_same : (b x : ℕ) (f : ℕ → ℕ) → put b x f b ≡ x
unfolding put
put_same b x f = rw (eq-eqb b b refl)

pub put_other : (b x : ℕ) (f : ℕ → ℕ) (s : ℕ) → (s ≡ b → ⊥) → put b x f s ≡ f s
unfolding put
put_other b x f s h = rw (ne_eqb s b h)

pub put_self : (b : ℕ) (f : ℕ → ℕ) (s : ℕ) → f s ≡ put b (f b) f s
unfolding put
put_self b f s = at (eqb s b) refl
  where
    at : (t : Bool) → eqb s b ≡ t → f s ≡ cond t (f b) (f s)
    at true e = ap f (eqb-true s b e)
    at false e = refl

pub put_parts : (b x : ℕ) (f : ℕ → ℕ) (s : ℕ) → put b x f s ≡ put b 0 f s ⊕ put b x (λ _. 0) s
unfolding put
put_parts b x f s = at (eqb s b)
  where
    at : (t : Bool) → cond t x (f s) ≡ cond t 0 (f s) ⊕ cond t x 0
    at true = sym (⊕_zero_l x)
    at false = sym (⊕_zero_r (f s))

-- ---- one at a place

pub put_none : (b s : ℕ) → put b 0 (λ _. 0) s ≡ 0
put_none b s = at (ℕ_discrete s b)
  where
    at : Dec (s ≡ b) → put b 0 (λ _. 0) s ≡ 0
    at (yes e) = rw e (put_same b 0 (λ _. 0))
    at (no e) = put_other b 0 (λ _. 0) s e

pub unit_byte : (b s : ℕ) → unit b s < 256
unit_byte b s = at (ℕ_discrete s b)
  where
    at : Dec (s ≡ b) → unit b s < 256
    at (yes e) = rw (e, put_same b 1 (λ _. 0)) (omega arith)
    at (no e) = rw (put_other b 1 (λ _. 0) s e) (omega arith)
