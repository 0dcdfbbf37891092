-- Believed: document 01, "The plan": combinations of rows, and independent rows.
-- A row is a vector, a matrix R gives each block's row. Blocks are numbered below n; the columns below w count. Coefficients are any numbers:
-- the product looks at their 8 low bits alone.
use Rattle.std.specs.Prelude.{◌≡◌, Bool, false, ℕ, ◌<◌}
use Rattle.field.specs.Field.{mul}
use Rattle.linear.specs.Sums.{sum_to}

-- column i of the combination of the rows of R with the coefficients c
unfoldable pub comb : ℕ → (ℕ → ℕ) → (ℕ → ℕ → ℕ) → ℕ → ℕ
comb n c R i = sum_to n (λ s. mul (c s) (R s i))

-- v is a combination of the rows that the set S names, with its coefficients
pub record Combo (n w : ℕ) (R : ℕ → ℕ → ℕ) (S : ℕ → Bool) (v : ℕ → ℕ) : Type 0 where
  pub coef : ℕ → ℕ
  pub out : (s : ℕ) → s < n → S s ≡ false → coef s ≡ 0
  pub sum : (i : ℕ) → i < w → v i ≡ comb n coef R i

-- the rows that S names are independent: coefficients of theirs that combine them to zeros are zeros
pub record Independent (n w : ℕ) (R : ℕ → ℕ → ℕ) (S : ℕ → Bool) : Type 0 where
  pub at : (e : ℕ → ℕ) → ((s : ℕ) → s < n → e s < 256) → ((s : ℕ) → s < n → S s ≡ false → e s ≡ 0)
      → ((i : ℕ) → i < w → comb n e R i ≡ 0) → (s : ℕ) → s < n → e s ≡ 0
