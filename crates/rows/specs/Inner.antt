-- Inside: what the functions below the public ones ask and answer, said of the group that they are handed. No public contract
-- names it.
use Rattle.std.specs.Prelude.{Bool, cond, ℕ, ◌+◌, ◌-◌, ◌<◌, ◌≤◌, ltb}
use Rattle.linear.specs.Sums.{unit}
use Rattle.groups.specs.declared.Group.{Group}
use Rattle.rows.specs.Rows.{among, part}

-- ---- one group

-- block b is the group g's own, where there are k data blocks
unfoldable pub owns_in : Group → ℕ → ℕ → Bool
owns_in g k b = cond (ltb b k) (among g.first g.d b) (among (k + g.redundant) g.h b)

-- the row of block b, whose home is the group g
abbrev pub row_in : Group → ℕ → ℕ → ℕ
row_in g k b = g.row + (b - (k + g.redundant))

-- the entry at data block i of the row of block b, whose home is the group g. There is no block from n on
unfoldable pub entry_in : Group → ℕ → ℕ → ℕ → ℕ → ℕ
entry_in g k n b i = cond (ltb b k) (unit b i) (cond (ltb b n) (part (row_in g k b) (among g.first g.count) i) 0)

-- the group's blocks are within the bounds
pub record Fit (g : Group) (k : ℕ) : Type 0 where
  pub datas : g.first + g.d ≤ 32
  pub inner : g.first + g.count ≤ 32
  pub redundants : k + g.redundant + g.h ≤ 48

-- block b, if it is a redundant block, is one of the group g's, and its row is one of the 16
pub record Homed (g : Group) (k n b : ℕ) : Type 0 where
  pub fit : Fit g k
  pub from : k ≤ b → b < n → k + g.redundant ≤ b
  pub below : k ≤ b → b < n → row_in g k b < 16
