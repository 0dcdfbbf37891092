-- Believed: document 01, "The layout note": a block is "the sum, over the data blocks .., of coefficient times block", at one byte position; and
-- demand 2: "fixed linear combination of surviving blocks", "for all data".
use Rattle.std.specs.Prelude.{◌≡◌, Bool, false, ℕ, ◌<◌}
use Rattle.field.specs.Field.{mul}
use Rattle.linear.specs.Sums.{sum_to}

-- the byte of the block whose row is r, where d are the bytes of the w data blocks
unfoldable pub dot : ℕ → (ℕ → ℕ) → (ℕ → ℕ) → ℕ
dot w r d = sum_to w (λ i. mul (r i) (d i))

-- the block whose row is t is a fixed linear combination of the blocks of S, the same for all data
pub record FromBlocks (n w : ℕ) (R : ℕ → ℕ → ℕ) (S : ℕ → Bool) (t : ℕ → ℕ) : Type 0 where
  pub coef : ℕ → ℕ
  pub out : (s : ℕ) → s < n → S s ≡ false → coef s ≡ 0
  pub gives : (d : ℕ → ℕ) → ((i : ℕ) → d i < 256) → dot w t d ≡ sum_to n (λ s. mul (coef s) (dot w (R s) d))
