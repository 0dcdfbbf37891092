-- Proved: the laws of sets of blocks and of how many blocks they have.
use mathlib.Core.Path.{◌≡◌, refl, sym, ap₂, ◌∙◌}
use mathlib.Core.Bool.{Bool, true, false, ◌||◌}
use Prim.Native.Nat.{ℕ, zero, suc, ◌+◌, ◌<◌, ◌≤◌}
use native.Mathlib.Omega.{arith}
use native.Mathlib.Decide.{dec_lt, ℕ_discrete}
use lib.Dec.{eqb}
use borrow.Author.Tests.{eq-eqb, ne_eqb}
use Rattle.linear.specs.Sets.{insert, remove, bit, count}

-- a block is not both in a set and not in it
pub in_and_out : {A : Type 0} {x : Bool} → x ≡ true → x ≡ false → A
in_and_out p q = let z : ◌≡◌ {A = ℕ} 0 1 = cc in absurd (omega arith)

pub insert_same : (b : ℕ) (S : ℕ → Bool) → insert b S b ≡ true
unfolding insert
insert_same b S = rw (eq-eqb b b refl)

pub insert_other : (b : ℕ) (S : ℕ → Bool) (s : ℕ) → (s ≡ b → ⊥) → insert b S s ≡ S s
unfolding insert
insert_other b S s h = rw (ne_eqb s b h)

-- what is not in the larger set is not in the smaller
pub insert_mono : (b : ℕ) (U S : ℕ → Bool) (s : ℕ) → (U s ≡ false → S s ≡ false) → insert b U s ≡ false → insert b S s ≡ false
unfolding insert
insert_mono b U S s h = at (eqb s b)
  where
    at : (t : Bool) → (t || U s) ≡ false → (t || S s) ≡ false
    at true o = in_and_out refl o
    at false o = h o

pub insert_less : (b : ℕ) (S : ℕ → Bool) (s : ℕ) → insert b S s ≡ false → S s ≡ false
unfolding insert
insert_less b S s = at (eqb s b)
  where
    at : (t : Bool) → (t || S s) ≡ false → S s ≡ false
    at true o = in_and_out refl o
    at false o = o

pub remove_same : (b : ℕ) (S : ℕ → Bool) → remove b S b ≡ false
unfolding remove
remove_same b S = rw (eq-eqb b b refl)

pub remove_other : (b : ℕ) (S : ℕ → Bool) (s : ℕ) → (s ≡ b → ⊥) → remove b S s ≡ S s
unfolding remove
remove_other b S s h = rw (ne_eqb s b h)

-- ---- how many

pub count_none : (S : ℕ → Bool) → ((s : ℕ) → S s ≡ false) → (n : ℕ) → count S n ≡ 0
unfolding count
count_none S h zero = refl
count_none S h (suc n) = rw (count_none S h n, h n)

pub count_cong : (S T : ℕ → Bool) (n : ℕ) → ((s : ℕ) → s < n → S s ≡ T s) → count S n ≡ count T n
unfolding count
count_cong S T zero h = refl
count_cong S T (suc n) h = ap₂ (λ (x : ℕ) (y : Bool). x + bit y) (count_cong S T n (λ s l. h s (omega arith))) (h n (omega arith))

-- a set within another has no more blocks
pub count_le : (S T : ℕ → Bool) (n : ℕ) → ((s : ℕ) → s < n → T s ≡ false → S s ≡ false) → count S n ≤ count T n
unfolding count
count_le S T zero h = omega arith
count_le S T (suc n) h = at (S n) (T n) (h n (omega arith)) (count_le S T n (λ s l. h s (omega arith)))
  where
    at : (x y : Bool) → (y ≡ false → x ≡ false) → count S n ≤ count T n → count S n + bit x ≤ count T n + bit y
    at false y k i = omega arith
    at true true k i = omega arith
    at true false k i = in_and_out refl (k refl)

-- there are at most n below n
pub count_most : (S : ℕ → Bool) (n : ℕ) → count S n ≤ n
unfolding count
count_most S zero = omega arith
count_most S (suc n) = at (S n) (count_most S n)
  where
    at : (t : Bool) → count S n ≤ n → count S n + bit t ≤ suc n
    at true h = omega arith
    at false h = omega arith

-- a block more
pub count_insert : (b : ℕ) (S : ℕ → Bool) (n : ℕ) → b < n → S b ≡ false → count (insert b S) n ≡ suc (count S n)
unfolding count
count_insert b S zero l o = absurd (omega arith)
count_insert b S (suc n) l o = at (count_insert b S n) (ℕ_discrete n b)
  where
    at : (b < n → S b ≡ false → count (insert b S) n ≡ suc (count S n)) → Dec (n ≡ b)
        → count (insert b S) n + bit (insert b S n) ≡ suc (count S n + bit (S n))
    at ih (yes e) =
        let x : insert b S n ≡ true = rw e (insert_same b S) in
        let y : S n ≡ false = rw e o in
        let q : count (insert b S) n ≡ count S n = count_cong (insert b S) S n (λ s k. insert_other b S s (omega arith)) in
        rw (x, y) (omega arith)
    at ih (no e) =
        let x : insert b S n ≡ S n = insert_other b S n e in
        let q : count (insert b S) n ≡ suc (count S n) = ih (omega arith) o in
        rw x (omega arith)

-- at most one more
pub count_insert_le : (b : ℕ) (S : ℕ → Bool) (n : ℕ) → count (insert b S) n ≤ suc (count S n)
count_insert_le b S n = at (S b) refl (dec_lt b n)
  where
    same : (s : ℕ) → S b ≡ true → Dec (s ≡ b) → insert b S s ≡ S s
    same s e (yes q) = rw q (insert_same b S ∙ sym e)
    same s e (no q) = insert_other b S s q

    at : (t : Bool) → S b ≡ t → Dec (b < n) → count (insert b S) n ≤ suc (count S n)
    at t e (no k) = omega (arith, count_cong (insert b S) S n (λ s l. insert_other b S s (omega arith)))
    at true e (yes k) = omega (arith, count_cong (insert b S) S n (λ s l. same s e (ℕ_discrete s b)))
    at false e (yes k) = omega (arith, count_insert b S n k e)

pub count_more : (T : ℕ → Bool) (s : ℕ) → T s ≡ true → count T (suc s) ≡ suc (count T s)
unfolding count
count_more T s e = rw e (omega arith)

pub count_same : (T : ℕ → Bool) (s : ℕ) → T s ≡ false → count T (suc s) ≡ count T s
unfolding count
count_same T s e = rw e (omega arith)

pub count_up : (T : ℕ → Bool) (s q : ℕ) → s ≤ q → count T s ≤ count T q
unfolding count
count_up T s zero l = let e : s ≡ 0 = omega arith in rw e (omega arith)
count_up T s (suc q) l = at (λ k. count_up T s q k) (ℕ_discrete s (suc q))
  where
    at : (s ≤ q → count T s ≤ count T q) → Dec (s ≡ suc q) → count T s ≤ count T q + bit (T q)
    at ih (yes e) = rw e (omega arith)
    at ih (no e) = omega (arith, ih (omega arith))

pub count_lt : (T : ℕ → Bool) (s q : ℕ) → s < q → T s ≡ true → count T s < count T q
count_lt T s q l e = omega (arith, count_more T s e, count_up T (suc s) q l)

-- the block of T below q that has k others of T before it
record Place (T : ℕ → Bool) (q k : ℕ) : Type 0 where
  of : ℕ
  below : of < q
  is : T of ≡ true
  at : count T of ≡ k

place : (T : ℕ → Bool) (q k : ℕ) → k < count T q → Place T q k
unfolding count
place T zero k l = absurd (omega arith)
place T (suc q) k l = at (λ h. place T q k h) (T q) refl (dec_lt k (count T q))
  where
    up : Place T q k → Place T (suc q) k
    up p = record { of = p.of; below = omega (arith, p.below); is = p.is; at = p.at }

    at : (k < count T q → Place T q k) → (t : Bool) → T q ≡ t → Dec (k < count T q) → Place T (suc q) k
    at ih t e (yes y) = up (ih y)
    at ih false e (no y) = absurd (omega (arith, count_same T q e))
    at ih true e (no y) = record { of = q; below = omega arith; is = e; at = omega (arith, count_more T q e) }

nth_by : (T : ℕ → Bool) (q k : ℕ) → Dec (k < count T q) → ℕ
nth_by T q k (yes l) = (place T q k l).of
nth_by T q k (no l) = 0

pub nth : (ℕ → Bool) → ℕ → ℕ → ℕ
nth T q k = nth_by T q k (dec_lt k (count T q))

module _ (T : ℕ → Bool) (q : ℕ) where
  pub nth_lt : (k : ℕ) → k < count T q → nth T q k < q
  unfolding nth nth_by
  nth_lt k l = at (dec_lt k (count T q))
    where
      at : (d : Dec (k < count T q)) → nth_by T q k d < q
      at (yes h) = (place T q k h).below
      at (no h) = absurd (h l)

  pub nth_in : (k : ℕ) → k < count T q → T (nth T q k) ≡ true
  unfolding nth nth_by
  nth_in k l = at (dec_lt k (count T q))
    where
      at : (d : Dec (k < count T q)) → T (nth_by T q k d) ≡ true
      at (yes h) = (place T q k h).is
      at (no h) = absurd (h l)

  pub nth_at : (k : ℕ) → k < count T q → count T (nth T q k) ≡ k
  unfolding nth nth_by
  nth_at k l = at (dec_lt k (count T q))
    where
      at : (d : Dec (k < count T q)) → count T (nth_by T q k d) ≡ k
      at (yes h) = (place T q k h).at
      at (no h) = absurd (h l)

  pub nth_count : (s : ℕ) → s < q → T s ≡ true → nth T q (count T s) ≡ s
  unfolding nth nth_by
  nth_count s l e = at (dec_lt (count T s) (count T q))
    where
      same : (p : Place T q (count T s)) → p.of ≡ s
      same p = on (dec_lt p.of s) (dec_lt s p.of)
        where
          on : Dec (p.of < s) → Dec (s < p.of) → p.of ≡ s
          on (yes h) d = absurd (omega (arith, count_lt T p.of s h p.is, p.at))
          on (no h) (yes g) = absurd (omega (arith, count_lt T s p.of g e, p.at))
          on (no h) (no g) = omega arith

      at : (d : Dec (count T s < count T q)) → nth_by T q (count T s) d ≡ s
      at (yes k) = same (place T q (count T s) k)
      at (no k) = absurd (k (count_lt T s q l e))
