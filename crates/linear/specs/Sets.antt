-- Believed: document 01, "The plan": sets of blocks, as those lost and the survivors. A set is a function from block numbers: a set S has the block s if S s
-- is true.
use Rattle.std.specs.Prelude.{Bool, true, false, not, ◌&&◌, ◌||◌, ℕ, zero, suc, ◌+◌, eqb, ltb}

abbrev pub none : ℕ → Bool
none s = false

-- S and the block b
unfoldable pub insert : ℕ → (ℕ → Bool) → ℕ → Bool
insert b S s = eqb s b || S s

-- S without the block b
unfoldable pub remove : ℕ → (ℕ → Bool) → ℕ → Bool
remove b S s = not (eqb s b) && S s

abbrev pub bit : Bool → ℕ
bit true = 1
bit false = 0

-- how many blocks below n the set S has
unfoldable pub count : (ℕ → Bool) → ℕ → ℕ
count S zero = 0
count S (suc n) = count S n + bit (S n)

-- how many of the coefficients of blocks below n are not zero
abbrev pub tally : (ℕ → ℕ) → ℕ → ℕ
tally c n = count (λ s. ltb 0 (c s)) n
