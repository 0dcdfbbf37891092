-- Proved: the greedy choice is a function of the order; its rows are independent and span what the survivors' rows span. So there is at most one
-- plan, and none where the target is no combination of the survivors' rows.
use mathlib.Core.Path.{◌≡◌, refl, sym, ap, ◌∙◌}
use mathlib.Core.Bool.{Bool, true, false}
use mathlib.Core.Logic.{◌↔◌}
use Prim.Native.Nat.{ℕ, zero, suc, ◌<◌}
use native.Mathlib.Omega.{arith}
use native.Mathlib.Decide.{ℕ_discrete}
use Rattle.field.proofs.Product.{mul_lt}
use Rattle.linear.specs.Sets.{insert}
use Rattle.linear.specs.Combinations.{Combo, Independent}
use Rattle.linear.specs.Greedy.{visited, Kept, begin, keeps, skips, IsPlan}
use Rattle.linear.proofs.Sets.{in_and_out, insert_same, insert_other, insert_mono, insert_less}
use Rattle.linear.proofs.Combinations.{combo_row, combo_more, combo_trans, combo_bytes}
use Rattle.linear.proofs.Independence.{independent_none, independent_more, independent_unique}

module _ {n w : ℕ} {R : ℕ → ℕ → ℕ} {order : ℕ → ℕ} where
  -- the choice is a function of the order
  pub kept_unique : {j : ℕ} {S T : ℕ → Bool} → Kept n w R order j S → Kept n w R order j T → S ≡ T
  kept_unique begin begin = refl
  kept_unique (keeps {j} c x) (keeps d y) = ap (insert (order j)) (kept_unique c d)
  kept_unique (keeps c x) (skips d y) = absurd (x (rw (kept_unique c d) y))
  kept_unique (skips c x) (keeps d y) = absurd (y (rw (← kept_unique c d) x))
  kept_unique (skips c x) (skips d y) = kept_unique c d

  -- only survivors are kept
  pub kept_in : {j : ℕ} {S : ℕ → Bool} → Kept n w R order j S → (s : ℕ) → visited order j s ≡ false → S s ≡ false
  unfolding visited
  kept_in begin s o = refl
  kept_in (keeps {j} {S} c x) s o = insert_mono (order j) (visited order j) S s (λ q. kept_in c s q) o
  kept_in (skips {j} {S} c x) s o = kept_in c s (insert_less (order j) (visited order j) s o)

module _ (n w : ℕ) (R : ℕ → ℕ → ℕ) (rb : (s i : ℕ) → R s i < 256) (order : ℕ → ℕ) where
  -- the rows chosen are independent
  pub kept_independent : {j : ℕ} {S : ℕ → Bool} → ((p : ℕ) → p < j → order p < n) → Kept n w R order j S → Independent n w R S
  kept_independent ob begin = independent_none n w R (λ s l. refl)
  kept_independent ob (keeps {j} {S} c x) =
      independent_more n w R (order j) (ob j (omega arith)) (rb (order j)) (insert_other (order j) S) x (kept_independent (λ p l. ob p (omega arith)) c)
  kept_independent ob (skips c x) = kept_independent (λ p l. ob p (omega arith)) c

  -- the row of each survivor is a combination of them
  pub kept_spans : {j : ℕ} {S : ℕ → Bool} → Kept n w R order j S → (s : ℕ) → s < n → visited order j s ≡ true → Combo n w R S (R s)
  unfolding visited
  kept_spans begin s l o = in_and_out o refl
  kept_spans (keeps {j} {S} c x) s l o = at (λ q. kept_spans c s l q) (ℕ_discrete s (order j))
    where
      at : (visited order j s ≡ true → Combo n w R S (R s)) → Dec (s ≡ order j) → Combo n w R (insert (order j) S) (R s)
      at ih (yes e) = combo_row n w R s l (rw e (insert_same (order j) S)) (rb s)
      at ih (no e) = combo_more n w R (λ t k. insert_less (order j) S t) (ih (sym (insert_other (order j) (visited order j) s e) ∙ o))
  kept_spans (skips {j} {S} c x) s l o = at (λ q. kept_spans c s l q) (ℕ_discrete s (order j))
    where
      at : (visited order j s ≡ true → Combo n w R S (R s)) → Dec (s ≡ order j) → Combo n w R S (R s)
      at ih (yes e) = rw e x
      at ih (no e) = ih (sym (insert_other (order j) (visited order j) s e) ∙ o)

  -- a combination of the rows chosen is one of the survivors' rows, and the other way round
  pub kept_combo : {j : ℕ} {S : ℕ → Bool} {t : ℕ → ℕ} → Kept n w R order j S → Combo n w R (visited order j) t ↔ Combo n w R S t
  kept_combo {j} {S} c =
      (combo_trans n w R n R (visited order j) S (kept_spans c), combo_more n w R (λ s l. kept_in c s))

  -- ---- plans

  pub plan_unique : {m : ℕ} {t c d : ℕ → ℕ} → ((p : ℕ) → p < m → order p < n)
      → IsPlan n w R order m t c → IsPlan n w R order m t d → (s : ℕ) → s < n → c s ≡ d s
  plan_unique {m} {t} {c} {d} ob x y =
      independent_unique n w R (kept_independent ob x.choice) c d x.byte y.byte x.out
      (λ s l o. y.out s l (rw (kept_unique y.choice x.choice) o)) (λ i l. sym (x.sum i l) ∙ y.sum i l)

  -- where there is a plan, the target is a combination of the survivors' rows
  pub plan_combo : {m : ℕ} {t c : ℕ → ℕ} → IsPlan n w R order m t c → Combo n w R (visited order m) t
  plan_combo {c = c} x = record { coef = c; out = λ s l o. x.out s l (kept_in x.choice s o); sum = x.sum }

  -- a combination of the rows chosen makes a plan
  pub plan_by : {m : ℕ} {S : ℕ → Bool} {t : ℕ → ℕ} → Kept n w R order m S → Combo n w R S t
      → (c : ℕ → ℕ) × IsPlan n w R order m t c
  unfolding combo_bytes
  plan_by {S = S} a x =
      let y = combo_bytes n w R x in
      (y.coef, record { kept = S; choice = a; out = y.out; byte = λ s l. mul_lt 1 (x.coef s); sum = y.sum })

-- ---- what is visited

-- the survivor at each place below j is visited, and nothing else
pub visited_at : (order : ℕ → ℕ) (j p : ℕ) → p < j → visited order j (order p) ≡ true
unfolding visited
visited_at order zero p l = absurd (omega arith)
visited_at order (suc j) p l = at (λ k. visited_at order j p k) (ℕ_discrete (order p) (order j))
  where
    at : (p < j → visited order j (order p) ≡ true) → Dec (order p ≡ order j) → insert (order j) (visited order j) (order p) ≡ true
    at ih (yes e) = rw e (insert_same (order j) (visited order j))
    at ih (no e) = insert_other (order j) (visited order j) (order p) e ∙ ih (before (ℕ_discrete p j))
      where
        before : Dec (p ≡ j) → p < j
        before (yes q) = absurd (e (ap order q))
        before (no q) = omega arith

pub visited_place : (order : ℕ → ℕ) (j s : ℕ) → visited order j s ≡ true → (p : ℕ) × (p < j) × (order p ≡ s)
unfolding visited
visited_place order zero s o = in_and_out o refl
visited_place order (suc j) s o = at (λ k. visited_place order j s k) (ℕ_discrete s (order j))
  where
    at : (visited order j s ≡ true → (p : ℕ) × (p < j) × (order p ≡ s)) → Dec (s ≡ order j) → (p : ℕ) × (p < suc j) × (order p ≡ s)
    at ih (yes e) = (j, omega arith, sym e)
    at ih (no e) = let x = ih (sym (insert_other (order j) (visited order j) s e) ∙ o) in (x.0, omega (arith, x.1), x.2)
