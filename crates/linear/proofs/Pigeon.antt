-- Proved: different numbers below w are at most w.
use mathlib.Core.Path.{◌≡◌, sym, ◌∙◌}
use Prim.Native.Nat.{ℕ, zero, suc, ◌<◌, ◌≤◌}
use native.Mathlib.Omega.{arith}
use native.Mathlib.Decide.{ℕ_discrete}

-- P p, or x where that is w
instead : (w x y : ℕ) → Dec (y ≡ w) → ℕ
instead w x y (yes e) = x
instead w x y (no e) = y

module _ (w m : ℕ) (P : ℕ → ℕ) (low : (p : ℕ) → p < suc m → P p < suc w)
    (apart : (p q : ℕ) → p < suc m → q < p → P p ≡ P q → ⊥) where
  low' : (p : ℕ) → p < m → (d : Dec (P p ≡ w)) → instead w (P m) (P p) d < w
  unfolding instead
  low' p l (yes e) =
      let n : P m ≡ w → ⊥ = λ f. apart m p (omega arith) l (f ∙ sym e) in
      omega (arith, low m (omega arith), n)
  low' p l (no e) = omega (arith, low p (omega arith))

  apart' : (p q : ℕ) → p < m → q < p → (d : Dec (P p ≡ w)) (e : Dec (P q ≡ w)) → instead w (P m) (P p) d ≡ instead w (P m) (P q) e → ⊥
  unfolding instead
  apart' p q l k (yes a) (yes b) h = apart p q (omega arith) k (a ∙ sym b)
  apart' p q l k (yes a) (no b) h = apart m q (omega arith) (omega arith) h
  apart' p q l k (no a) (yes b) h = apart m p (omega arith) l (sym h)
  apart' p q l k (no a) (no b) h = apart p q (omega arith) k h

pub pigeon : (w m : ℕ) (P : ℕ → ℕ) → ((p : ℕ) → p < m → P p < w) → ((p q : ℕ) → p < m → q < p → P p ≡ P q → ⊥) → m ≤ w
pigeon zero zero P low apart = omega arith
pigeon zero (suc m) P low apart = omega (arith, low 0 (omega arith))
pigeon (suc w) zero P low apart = omega arith
pigeon (suc w) (suc m) P low apart =
    let h : m ≤ w =
    pigeon w m (λ p. instead w (P m) (P p) (ℕ_discrete (P p) w)) (λ p l. low' w m P low apart p l (ℕ_discrete (P p) w))
    (λ p q l k. apart' w m P low apart p q l k (ℕ_discrete (P p) w) (ℕ_discrete (P q) w)) in
    omega arith
