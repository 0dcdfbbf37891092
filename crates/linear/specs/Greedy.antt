-- Believed: document 01, "The plan": "Keep each survivor whose row is no combination of those kept before. The plan is the one combination over
-- the kept rows". `order j` is the survivor visited at place j. Nothing here knows how a choice or a plan is computed.
use Rattle.std.specs.Prelude.{◌≡◌, Bool, false, ℕ, zero, suc, ◌<◌}
use Rattle.linear.specs.Sets.{none, insert}
use Rattle.linear.specs.Combinations.{comb, Combo}

-- the survivors at the places below j
unfoldable pub visited : (ℕ → ℕ) → ℕ → ℕ → Bool
visited order zero = none
visited order (suc j) = insert (order j) (visited order j)

-- `Kept .. j S`: S is what is kept of the survivors at the places below j
module _ (n w : ℕ) (R : ℕ → ℕ → ℕ) (order : ℕ → ℕ) where
  pub data Kept : ℕ → (ℕ → Bool) → Type 0 where
    begin : Kept 0 none
    keeps : {j : ℕ} {S : ℕ → Bool} → Kept j S → (Combo n w R S (R (order j)) → ⊥) → Kept (suc j) (insert (order j) S)
    skips : {j : ℕ} {S : ℕ → Bool} → Kept j S → Combo n w R S (R (order j)) → Kept (suc j) S

-- c is the plan of the row t over the first m survivors: bytes, zero for every block that is not kept, that make t of the kept rows
pub record IsPlan (n w : ℕ) (R : ℕ → ℕ → ℕ) (order : ℕ → ℕ) (m : ℕ) (t c : ℕ → ℕ) : Type 0 where
  pub kept : ℕ → Bool
  pub choice : Kept n w R order m kept
  pub out : (s : ℕ) → s < n → kept s ≡ false → c s ≡ 0
  pub byte : (s : ℕ) → s < n → c s < 256
  pub sum : (i : ℕ) → i < w → t i ≡ comb n c R i
