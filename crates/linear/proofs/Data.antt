-- Proved: a combination of rows is a combination of blocks, whatever the data are, and the other way round. The way back reads the rows off
-- unit data: one data byte 1, the others 0.
use mathlib.Core.Path.{◌≡◌, refl, sym, ap, ◌∙◌}
use mathlib.Core.Bool.{Bool, true, false}
use mathlib.Core.Logic.{◌↔◌}
use Prim.Native.Nat.{ℕ, ◌<◌}
use Rattle.field.specs.Field.{mul}
use Rattle.field.proofs.Product.{mul_zero_l, mul_zero_r}
use Rattle.field.proofs.Laws.{mul_one_r}
use Rattle.linear.specs.Sums.{sum_to, unit}
use Rattle.linear.specs.Combinations.{comb, Combo}
use Rattle.linear.specs.Blocks.{dot, FromBlocks}
use Rattle.linear.proofs.Sums.{sum_cong, sum_zero, sum_single, put_same, put_other, unit_byte}
use Rattle.linear.proofs.Combinations.{comb_comb, comb_lt}

module _ (w : ℕ) where
  pub dot_cong : {r q : ℕ → ℕ} (d : ℕ → ℕ) → ((i : ℕ) → i < w → r i ≡ q i) → dot w r d ≡ dot w q d
  unfolding dot
  dot_cong d h = sum_cong w (λ i l. ap (λ (x : ℕ). mul x (d i)) (h i l))

  pub dot_unit : (r : ℕ → ℕ) (i : ℕ) → i < w → r i < 256 → dot w r (unit i) ≡ r i
  unfolding dot
  dot_unit r i l h =
      sum_single w i _ l (λ j k e. ap (mul (r j)) (put_other i 1 (λ _. 0) j e) ∙ mul_zero_r (r j))
      ∙ ap (mul (r i)) (put_same i 1 (λ _. 0))
      ∙ mul_one_r (r i) h

  module _ (n : ℕ) (R : ℕ → ℕ → ℕ) where
    -- the value of a combination of rows is that combination of the rows' values
    pub dot_comb : (c d : ℕ → ℕ) → sum_to n (λ s. mul (c s) (dot w (R s) d)) ≡ dot w (comb n c R) d
    unfolding dot comb
    dot_comb c d = comb_comb w n c R (λ i _. d i) 0

    -- block t is made by c from the blocks for every data just where its row is made by c from their rows
    pub for_all_data : (t c : ℕ → ℕ) → ((i : ℕ) → t i < 256)
        → ((d : ℕ → ℕ) → ((i : ℕ) → d i < 256) → dot w t d ≡ sum_to n (λ s. mul (c s) (dot w (R s) d)))
        ↔ ((i : ℕ) → i < w → t i ≡ comb n c R i)
    for_all_data t c tb = (
      λ h i l. sym (dot_unit t i l (tb i)) ∙ h (unit i) (unit_byte i) ∙ dot_comb c (unit i) ∙ dot_unit (comb n c R) i l (comb_lt n c R i),
      λ h d db. dot_cong d h ∙ sym (dot_comb c d),
    )

    -- data for which the blocks of S are all zero and block t is not: t is no combination of S
    pub apart_by : {S : ℕ → Bool} {t : ℕ → ℕ} (d : ℕ → ℕ) → ((s : ℕ) → s < n → S s ≡ true → dot w (R s) d ≡ 0) → (dot w t d ≡ 0 → ⊥)
        → Combo n w R S t → ⊥
    apart_by {S} {t} d h k x =
        k (dot_cong d x.sum ∙ sym (dot_comb x.coef d) ∙ sum_zero n _ (λ s l. at s l (S s) refl))
      where
        at : (s : ℕ) → s < n → (b : Bool) → S s ≡ b → mul (x.coef s) (dot w (R s) d) ≡ 0
        at s l true e = ap (mul (x.coef s)) (h s l e) ∙ mul_zero_r (x.coef s)
        at s l false e = ap (λ (y : ℕ). mul y (dot w (R s) d)) (x.out s l e) ∙ mul_zero_l (dot w (R s) d)

    -- a combination of rows is a combination of blocks, and the other way round
    pub combo_blocks : {S : ℕ → Bool} (t : ℕ → ℕ) → ((i : ℕ) → t i < 256) → Combo n w R S t ↔ FromBlocks n w R S t
    combo_blocks t tb = (
      λ x. record { coef = x.coef; out = x.out; gives = (for_all_data t x.coef tb).1 x.sum },
      λ x. record { coef = x.coef; out = x.out; sum = (for_all_data t x.coef tb).0 x.gives },
    )
