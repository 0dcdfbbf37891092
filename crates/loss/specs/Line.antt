-- Believed: document 01, "A depot pair worked through": the line of a lost block.
use Rattle.std.specs.Prelude.{List, [], ◌∷◌, ◌++◌, ℕ, Result, Ok, Err}
use Rattle.plan.specs.declared.Plan.{Plan}
use Rattle.text.specs.Text.{decimal, items_text}

-- of a lost block: its plan, or the number of the refusal, any number
abbrev pub plan_text : Result Plan ℕ → List ℕ
plan_text (Ok p) = items_text p.block p.coef p.reads
plan_text (Err number) = (32 ∷ []) ++ decimal number

-- "lost b", and what is answered to the question for its plan
abbrev pub line_of : ℕ → Result Plan ℕ → List ℕ
line_of b r = (108 ∷ 111 ∷ 115 ∷ 116 ∷ 32 ∷ []) ++ decimal b ++ plan_text r ++ (10 ∷ [])
