-- Believed: what is left of a script behind its first bytes.
use Rattle.std.specs.Prelude.{◌≡◌, ℕ, List, drop}

-- left is all of s but some first bytes
pub record IsEnd (left s : List ℕ) : Type 0 where
  pub taken : ℕ
  pub rest : left ≡ drop taken s
