-- Believed: demand 2 over the store's own calls: "In a sound call a lost block is refused exactly if it is no fixed linear combination of surviving blocks.
-- Otherwise the plan's coefficients give that block back for all data, and that is what gets written."
use Rattle.std.specs.Prelude.{◌≡◌, ◌⊎◌, Bool, true, false, ℕ, ◌<◌, get_or}
use Rattle.field.specs.Field.{mul}
use Rattle.linear.specs.Sums.{sum_to}
use Rattle.groups.specs.declared.Layout.{Layout}
use Rattle.marks.specs.Marks.{marked}
use Rattle.rows.specs.Rows.{blocks}
use Rattle.calls.specs.Code.{Code, enc}
use Rattle.calls.specs.Demands.{Fixed}
use Rattle.plan.specs.declared.Plan.{Plan}
use Rattle.plan.specs.Codes.{code_of}
use Rattle.plan.specs.Plans.{IsListed}

-- block b is "refused exactly if it is no fixed linear combination of surviving blocks. Otherwise .."
abbrev pub Decided : Code → (ℕ → Bool) → ℕ → Type 0 → Type 0 → Type 0 → Type 0
Decided c lost b refused accepted otherwise = ((Fixed c lost b → ⊥) × refused) ⊎ (Fixed c lost b × accepted × otherwise)

-- "the plan's coefficients give that block back for all data": of the plan p of block b, the marks of `lost` standing
pub record GivesBack (l : Layout) (L lost b : ℕ) (p : Plan) : Type 0 where
  pub plan : IsListed l L lost b p
  -- no lost block has a coefficient, and none is listed
  pub none : (a : ℕ) → a < blocks l → marked lost a ≡ true → plan.coef a ≡ 0
  pub present : (j : ℕ) → j < p.reads → marked lost (get_or p.block j 0) ≡ false
  -- by the coefficient of every block, and by what is listed
  pub back : (D : ℕ → ℕ → ℕ) (x : ℕ) → enc (code_of l L) D b x ≡ sum_to (blocks l) (λ a. mul (plan.coef a) (enc (code_of l L) D a x))
  pub listed : (D : ℕ → ℕ → ℕ) (x : ℕ)
      → enc (code_of l L) D b x ≡ sum_to p.reads (λ j. mul (get_or p.coef j 0) (enc (code_of l L) D (get_or p.block j 0) x))
