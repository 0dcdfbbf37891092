-- Inside: what the functions below the public one ask and answer, said of the steps and of the list that they are handed. No public contract
-- names it.
use Rattle.std.specs.Prelude.{Bool, not, ◌&&◌, List, [], ◌++◌, ◌≡◌, ℕ, zero, suc, ◌+◌, eqb, length, set}
use Rattle.visits.specs.Visits.{listed}
use Rattle.visits.specs.Answers.{Listed}
use Rattle.visits.specs.declared.Visits.{Visits}

-- ---- lists by steps that are handed in

-- of the blocks below m the survivors whose step by f is g, by number
unfoldable pub chosen : (ℕ → Bool) → (ℕ → ℕ) → ℕ → ℕ → List ℕ
chosen lost f g zero = []
chosen lost f g (suc s) = chosen lost f g s ++ listed (not (lost s) && eqb (f s) g) s

-- the survivors below n whose step is below m, the last step first
unfoldable pub gathered : (ℕ → Bool) → (ℕ → ℕ) → ℕ → ℕ → List ℕ
gathered lost f n zero = []
gathered lost f n (suc g) = chosen lost f g n ++ gathered lost f n g

-- one block more
abbrev pub pushed : Visits → ℕ → Visits
pushed v s = record { count = v.count + 1; blocks = set v.blocks v.count s }

-- w is v with the list ys behind what v holds
pub record Extended (v : Visits) (ys : List ℕ) (w : Visits) : Type 0 where
  pub count : w.count ≡ v.count + length ys
  pub long : length w.blocks ≡ 48
  pub lists : (xs : List ℕ) → Listed xs v → Listed (xs ++ ys) w
