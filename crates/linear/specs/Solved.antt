-- Believed: document 01, "The plan": what the elimination answers. A matrix comes as 48 rows of 32 bytes, one after another; one of
-- fewer blocks or columns stands in this frame with zeros round it (proofs/Frames). An order of survivors comes as a list of block numbers.
use Rattle.std.specs.Prelude.{List, Option, ◌≡◌, ℕ, ◌+◌, ◌*◌, ◌<◌, ◌≤◌, get_or, length, IfSome, IfNone}
use Rattle.linear.specs.Combinations.{Combo}
use Rattle.linear.specs.Greedy.{visited, IsPlan}

-- a list of bytes as a vector
abbrev pub vec : List ℕ → ℕ → ℕ
vec l i = get_or l i 0

-- a list of bytes as rows of 32
abbrev pub row_of : List ℕ → ℕ → ℕ → ℕ
row_of l s i = get_or l (s * 32 + i) 0

-- what `solve` asks: a whole matrix, and m survivors that are rows of it
pub record Survivors (rows order : List ℕ) (m : ℕ) : Type 0 where
  pub matrix : length rows ≡ 1536
  pub most : m ≤ length order
  pub below : (p : ℕ) → p < m → get_or order p 0 < 48

-- what `solve` answers: the coefficients by block number of THE combination over the kept rows, or that the target is no combination of the
-- survivors' rows at all. At most one answer fits (`solved_unique` in proofs/Answers)
pub record Solved (rows order : List ℕ) (m : ℕ) (target : List ℕ) (a : Option (List ℕ)) : Type 0 where
  pub long : IfSome a (λ c. length c ≡ 48)
  pub plan : IfSome a (λ c. IsPlan 48 32 (row_of rows) (vec order) m (vec target) (vec c))
  pub none : IfNone a (Combo 48 32 (row_of rows) (visited (vec order) m) (vec target) → ⊥)
