-- Proved: only what stands in the frame counts. Matrices that agree on the blocks below n and the columns below w, orders that agree on the places
-- below m and targets that agree on the columns below w have the same combinations, the same choice and the same plan.
use mathlib.Core.Path.{◌≡◌, refl, sym, ap, ap₂, ◌∙◌}
use mathlib.Core.Bool.{Bool}
use Prim.Native.Nat.{ℕ, zero, suc, ◌<◌}
use native.Mathlib.Omega.{arith}
use Rattle.linear.specs.Sets.{insert}
use Rattle.linear.specs.Combinations.{Combo}
use Rattle.linear.specs.Greedy.{visited, Kept, begin, keeps, skips, IsPlan}
use Rattle.linear.proofs.Combinations.{comb_rows, combo_cong}

-- orders that agree below m visit the same blocks
pub visited_agree : {order other : ℕ → ℕ} (m : ℕ) → ((p : ℕ) → p < m → order p ≡ other p) → visited order m ≡ visited other m
unfolding visited
visited_agree zero h = refl
visited_agree (suc m) h = ap₂ insert (h m (omega arith)) (visited_agree m (λ p l. h p (omega arith)))

module _ (n w : ℕ) {R Q : ℕ → ℕ → ℕ} (same : (s i : ℕ) → s < n → i < w → Q s i ≡ R s i) where
  pub combo_agree : {S : ℕ → Bool} {v : ℕ → ℕ} → Combo n w R S v → Combo n w Q S v
  combo_agree x = record { coef = x.coef; out = x.out; sum = λ i l. x.sum i l ∙ sym (comb_rows n x.coef Q R i (λ s k. same s i k l)) }

  -- the row of one block is a combination in the one just where it is in the other
  row_there : {S : ℕ → Bool} (b c : ℕ) → b < n → c ≡ b → Combo n w R S (R b) → Combo n w Q S (Q c)
  row_there b c l e x = combo_cong n w Q (λ i k. ap (λ (s : ℕ). Q s i) e ∙ same b i l k) (combo_agree x)

module _ (n w : ℕ) {R Q : ℕ → ℕ → ℕ} (same : (s i : ℕ) → s < n → i < w → Q s i ≡ R s i) where
  row_back : {S : ℕ → Bool} (b c : ℕ) → b < n → c ≡ b → Combo n w Q S (Q c) → Combo n w R S (R b)
  row_back b c l e x =
      combo_cong n w R (λ i k. sym (same b i l k) ∙ ap (λ (s : ℕ). Q s i) (sym e)) (combo_agree n w (λ s i l k. sym (same s i l k)) x)

module _ (n w : ℕ) {R Q : ℕ → ℕ → ℕ} (same : (s i : ℕ) → s < n → i < w → Q s i ≡ R s i) {order other : ℕ → ℕ} where
  pub kept_agree : {m : ℕ} {S : ℕ → Bool} → ((p : ℕ) → p < m → order p < n) → ((p : ℕ) → p < m → other p ≡ order p)
      → Kept n w R order m S → Kept n w Q other m S
  kept_agree ob eq begin = begin
  kept_agree ob eq (keeps {j} {S} a x) =
      rw (← eq j (omega arith))
      (keeps (kept_agree (λ p l. ob p (omega arith)) (λ p l. eq p (omega arith)) a)
      (λ y. x (row_back n w same (order j) (other j) (ob j (omega arith)) (eq j (omega arith)) y)))
  kept_agree ob eq (skips {j} {S} a x) =
      skips (kept_agree (λ p l. ob p (omega arith)) (λ p l. eq p (omega arith)) a)
      (row_there n w same (order j) (other j) (ob j (omega arith)) (eq j (omega arith)) x)

  pub plan_agree : {m : ℕ} {t u c : ℕ → ℕ} → ((p : ℕ) → p < m → order p < n) → ((p : ℕ) → p < m → other p ≡ order p)
      → ((i : ℕ) → i < w → u i ≡ t i) → IsPlan n w R order m t c → IsPlan n w Q other m u c
  plan_agree {c = c} ob eq tu x =
      record {
        kept = x.kept;
        choice = kept_agree ob eq x.choice;
        out = x.out;
        byte = x.byte;
        sum = λ i l. tu i l ∙ x.sum i l ∙ sym (comb_rows n c Q R i (λ s k. same s i k l));
      }
