-- Believed: document 01, "A depot pair worked through": the lost sets, block by block, each with the block's plan or that it has none.
use Rattle.std.specs.Prelude.{Bool, List, [], ◌∷◌, ℕ, Result, Ok, Err}
use Rattle.field.specs.Field.{◌⊕◌}
use Rattle.linear.specs.Sums.{put}
use Rattle.marks.specs.Marks.{marked, with_mark}
use Rattle.calls.specs.Code.{Code, HasPlan, PlanOf}
use Rattle.plan.specs.declared.Standing.{Standing}
use Rattle.plan.specs.declared.Plan.{Plan}
use Rattle.plan.specs.declared.Refusal.{Refusal}
use Rattle.plan.specs.declared.Refusal.TheVariants.{NoPlan}
use Rattle.plan.specs.Codes.{code_of}
use Rattle.plan.specs.Listing.{list_of}
use Rattle.worked.specs.Depot.{depot}

-- ---- how a case is written

-- a term of a plan: a coefficient and the block that it multiplies
pub record Term : Type 0 where
  pub coef : ℕ
  pub block : ℕ

infix 80 ◌times◌
abbrev pub ◌times◌ : ℕ → ℕ → Term
c times b = record { coef = c; block = b }

-- the coefficients of a list of terms, by block number
unfoldable pub coefs : List Term → ℕ → ℕ
coefs [] s = 0
coefs (t ∷ l) s = put t.block t.coef (λ _. 0) s ⊕ coefs l s

-- of a lost block: its plan, by its terms, or that it has none
pub data Says : Type 0 where
  by : List Term → Says
  nothing : Says

-- the blocks that are lost, one of them, and what is said of that one
pub record Case : Type 0 where
  pub lost : List ℕ
  pub block : ℕ
  pub says : Says

-- ---- the cases

-- "lost {0}: plan 26 x block 1 + 129 x block 5. Lost {0, 1}, {0, 1, 2}, {0, 2, 4}: all have plans. Lost {0, 1, 5}: none has. Lost {0, 1, 5, 6}: only
-- 6 has": every lost block of each set. Where the document says only that a block has a plan, its terms here say which
abbrev pub cases : List Case
cases =
    record { lost = 0 ∷ []; block = 0; says = by (26 times 1 ∷ 129 times 5 ∷ []) }
    ∷ record { lost = 0 ∷ 1 ∷ []; block = 0; says = by (53 times 2 ∷ 22 times 3 ∷ 245 times 4 ∷ 102 times 5 ∷ []) }
    ∷ record { lost = 0 ∷ 1 ∷ []; block = 1; says = by (87 times 2 ∷ 218 times 3 ∷ 102 times 4 ∷ 245 times 5 ∷ []) }
    ∷ record { lost = 0 ∷ 1 ∷ 2 ∷ []; block = 0; says = by (103 times 3 ∷ 245 times 4 ∷ 102 times 5 ∷ 192 times 6 ∷ []) }
    ∷ record { lost = 0 ∷ 1 ∷ 2 ∷ []; block = 1; says = by (32 times 3 ∷ 102 times 4 ∷ 245 times 5 ∷ 49 times 6 ∷ []) }
    ∷ record { lost = 0 ∷ 1 ∷ 2 ∷ []; block = 2; says = by (160 times 3 ∷ 131 times 6 ∷ []) }
    ∷ record { lost = 0 ∷ 2 ∷ 4 ∷ []; block = 0; says = by (26 times 1 ∷ 129 times 5 ∷ []) }
    ∷ record { lost = 0 ∷ 2 ∷ 4 ∷ []; block = 2; says = by (160 times 3 ∷ 131 times 6 ∷ []) }
    ∷ record { lost = 0 ∷ 2 ∷ 4 ∷ []; block = 4; says = by (23 times 1 ∷ 218 times 3 ∷ 26 times 5 ∷ 160 times 6 ∷ []) }
    ∷ record { lost = 0 ∷ 1 ∷ 5 ∷ []; block = 0; says = nothing }
    ∷ record { lost = 0 ∷ 1 ∷ 5 ∷ []; block = 1; says = nothing }
    ∷ record { lost = 0 ∷ 1 ∷ 5 ∷ []; block = 5; says = nothing }
    ∷ record { lost = 0 ∷ 1 ∷ 5 ∷ 6 ∷ []; block = 0; says = nothing }
    ∷ record { lost = 0 ∷ 1 ∷ 5 ∷ 6 ∷ []; block = 1; says = nothing }
    ∷ record { lost = 0 ∷ 1 ∷ 5 ∷ 6 ∷ []; block = 5; says = nothing }
    ∷ record { lost = 0 ∷ 1 ∷ 5 ∷ 6 ∷ []; block = 6; says = by (29 times 2 ∷ 161 times 3 ∷ []) }
    ∷ []

-- ---- what it is for a case to be right

-- the code of the depot pair, L being 1
abbrev pub code : Code
code = code_of depot 1

-- the marks of the blocks listed
unfoldable pub marks_of : List ℕ → ℕ
marks_of [] = 0
marks_of (b ∷ bs) = with_mark (marks_of bs) b

abbrev pub lost_set : List ℕ → ℕ → Bool
lost_set lost = marked (marks_of lost)

-- what is said is so: the block has a plan, and the terms are its plan; or it has none
abbrev pub Right : List ℕ → ℕ → Says → Type 0
Right lost b (by l) = HasPlan code (lost_set lost) b × PlanOf code (lost_set lost) b (coefs l)
Right lost b nothing = HasPlan code (lost_set lost) b → ⊥

-- the standing in which these blocks are lost
abbrev pub standing : List ℕ → Standing
standing lost = record { len = 1; lost = marks_of lost }

-- what is answered to the question for the plan: the terms, listed, or 14
abbrev pub answered : Says → Result Plan Refusal
answered (by l) = Ok (list_of (coefs l) 7)
answered nothing = Err NoPlan

-- P holds of each of the list
pub data Each {A : Type 0} (P : A → Type 0) : List A → Type 0 where
  end : Each P []
  also : {x : A} {xs : List A} → P x → Each P xs → Each P (x ∷ xs)
