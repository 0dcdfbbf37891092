-- Believed: document 01, "The plan": "The number of independent rows among the survivors".
use Rattle.std.specs.Prelude.{◌≡◌, Bool, true, false, ℕ, ◌<◌}
use Rattle.linear.specs.Sets.{count}
use Rattle.linear.specs.Combinations.{Combo, Independent}

-- B is a basis of the rows that S names: some of them, independent, of which each of S's rows is a combination
pub record Basis (n w : ℕ) (R : ℕ → ℕ → ℕ) (S B : ℕ → Bool) : Type 0 where
  pub inside : (s : ℕ) → s < n → S s ≡ false → B s ≡ false
  pub independent : Independent n w R B
  pub spans : (s : ℕ) → s < n → S s ≡ true → Combo n w R B (R s)

-- r is the number of independent rows among those that S names. There is one for every S, and only one (proofs/Ranks)
pub record Rank (n w : ℕ) (R : ℕ → ℕ → ℕ) (S : ℕ → Bool) (r : ℕ) : Type 0 where
  pub basis : ℕ → Bool
  pub is : Basis n w R S basis
  pub size : count basis n ≡ r
