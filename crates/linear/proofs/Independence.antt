-- Proved: the laws of independent rows: none at all are; a row that is no combination of them joins them; coefficients over them are unique.
use mathlib.Core.Path.{◌≡◌, sym, ap, ap₂, ◌∙◌}
use mathlib.Core.Bool.{Bool, false}
use Prim.Native.Nat.{ℕ, ◌<◌}
use native.Mathlib.Omega.{arith}
use native.Mathlib.Decide.{ℕ_discrete}
use Rattle.field.specs.Field.{◌⊕◌, mul, inv}
use Rattle.field.proofs.Xor.{⊕_zero_r, ⊕_lt, ⊕_self, ⊕_equal}
use Rattle.field.proofs.Product.{mul_zero_r}
use Rattle.field.proofs.Laws.{mul_undo}
use Rattle.linear.specs.Sums.{put}
use Rattle.linear.specs.Combinations.{comb, Combo, Independent}
use Rattle.linear.proofs.Sums.{put_same, put_other}
use Rattle.linear.proofs.Combinations.{comb_⊕, comb_scale, comb_split}

module _ (n w : ℕ) (R : ℕ → ℕ → ℕ) where
  pub independent_none : {S : ℕ → Bool} → ((s : ℕ) → s < n → S s ≡ false) → Independent n w R S
  independent_none o = record { at = λ e eb eo z s k. eo s k (o s k) }

  -- a row that is no combination of them keeps them independent
  module _ {S T : ℕ → Bool} (b : ℕ) (l : b < n) (rb : (i : ℕ) → R b i < 256) (same : (s : ℕ) → (s ≡ b → ⊥) → T s ≡ S s)
      (apart : Combo n w R S (R b) → ⊥) (F : Independent n w R S) where
    independent_at : (e : ℕ → ℕ) → ((s : ℕ) → s < n → e s < 256) → ((s : ℕ) → s < n → T s ≡ false → e s ≡ 0)
        → ((i : ℕ) → i < w → comb n e R i ≡ 0) → (s : ℕ) → s < n → e s ≡ 0
    independent_at e eb eo z = at (ℕ_discrete (e b) 0)
      where
        off : (s : ℕ) → s < n → S s ≡ false → (s ≡ b → ⊥) → e s ≡ 0
        off s k o d = eo s k (same s d ∙ o)

        drop : (s : ℕ) → s < n → S s ≡ false → Dec (s ≡ b) → put b 0 e s ≡ 0
        drop s k o (yes d) = rw d (put_same b 0 e)
        drop s k o (no d) = put_other b 0 e s d ∙ off s k o d

        row : 0 < e b → Combo n w R S (R b)
        row p =
            record {
              coef = λ s. mul (inv (e b)) (put b 0 e s);
              out = λ s k o. ap (mul (inv (e b))) (drop s k o (ℕ_discrete s b)) ∙ mul_zero_r (inv (e b));
              sum = λ i k.
                  sym (mul_undo (e b) (R b i) (eb b l) p (rb i))
                  ∙ ap (mul (inv (e b)))
                  (sym (⊕_equal (comb n (put b 0 e) R i) (mul (e b) (R b i)) (sym (comb_split n b e R i l) ∙ z i k)))
                  ∙ sym (comb_scale n (inv (e b)) (put b 0 e) R i);
            }

        zero_at : e b ≡ 0 → (s : ℕ) → s < n → S s ≡ false → Dec (s ≡ b) → e s ≡ 0
        zero_at q s k o (yes d) = ap e d ∙ q
        zero_at q s k o (no d) = off s k o d

        at : Dec (e b ≡ 0) → (s : ℕ) → s < n → e s ≡ 0
        at (yes q) = F.at e eb (λ s k o. zero_at q s k o (ℕ_discrete s b)) z
        at (no q) = absurd (apart (row (omega arith)))

    pub independent_more : Independent n w R T
    independent_more = record { at = independent_at }

  -- the coefficients over independent rows are unique
  pub independent_unique : {S : ℕ → Bool} → Independent n w R S → (c d : ℕ → ℕ) → ((s : ℕ) → s < n → c s < 256) → ((s : ℕ) → s < n → d s < 256)
      → ((s : ℕ) → s < n → S s ≡ false → c s ≡ 0) → ((s : ℕ) → s < n → S s ≡ false → d s ≡ 0)
      → ((i : ℕ) → i < w → comb n c R i ≡ comb n d R i) → (s : ℕ) → s < n → c s ≡ d s
  independent_unique F c d cb db co do' e s l =
      ⊕_equal (c s) (d s)
      (F.at (λ r. c r ⊕ d r) (λ r k. ⊕_lt (cb r k) (db r k)) (λ r k o. ap₂ ◌⊕◌ (co r k o) (do' r k o) ∙ ⊕_zero_r 0)
      (λ i k. comb_⊕ n c d R i ∙ ap (λ (z : ℕ). comb n c R i ⊕ z) (sym (e i k)) ∙ ⊕_self (comb n c R i))
      s l)
