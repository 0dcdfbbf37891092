-- Proved: document 01, "A depot pair worked through": for lost {0, 1, 5, 6} the text is the document's.
use mathlib.Core.Path.{◌≡◌, refl}
use mathlib.Core.Bool.{false}
use mathlib.Core.List.{List, [], ◌∷◌, ◌++◌}
use Prim.Native.Nat.{ℕ, zero, suc, ◌≤◌}
use native.Mathlib.Omega.{arith}
use lib.ListN.{drop}
use Rattle.field.specs.Field.{◌⊕◌}
use Rattle.linear.specs.Sums.{put}
use Rattle.note.specs.Tree.{over, over_in, datas, redundants, layout_of}
use Rattle.marks.specs.Marks.{marked, with_mark, none_from}
use Rattle.marks.proofs.Bits.{none_from_lem}
use Rattle.rows.specs.Rows.{blocks}
use Rattle.plan.specs.declared.Standing.{Standing}
use Rattle.plan.specs.Listing.{list_of}
use Rattle.plan.specs.Plans.{Plans}
use Rattle.worked.specs.Depot.{depot}
use Rattle.worked.specs.Plans as WorkedPlans
use Rattle.worked.specs.Plans.{◌times◌, coefs, nothing, Case, cases, marks_of, standing, answered, Each, end, also}
use Rattle.worked.proofs.Rows.{depot_read, depot_blocks}
use Rattle.worked.proofs.Answers.{in_range, cases_answered}
use Rattle.text.specs.Text.{decimal, items_text, layout_text}
use Rattle.input.specs.Input.{little, Whole}
use Rattle.loss.specs.Line.{line_of}
use Rattle.losses.specs.Lines.{numbered, Lines, none, present, lost}
use Rattle.report.specs.Report.{Listed, lines, met, Follows, Says}
use Rattle.report.specs.Worked.{sample_rest, sample_input, sample_text}

-- ---- the plans

abbrev st : Standing
st = record { len = 1; lost = 99 }

unmarked : (b : ℕ) → blocks depot ≤ b → marked 99 b ≡ false
unfolding none_from
unmarked b h = (none_from_lem 99 7).0 refl b (omega (arith, depot_blocks.1))

-- the last n of a list of facts
last : {A : Type 0} {P : A → Type 0} {xs : List A} (n : ℕ) → Each P xs → Each P (drop n xs)
last zero e = e
last (suc n) end = end
last (suc n) (also x e) = last n e

-- the line of a lost block, from what is said of it
abbrev line : ℕ → WorkedPlans.Says → List ℕ
line b says = line_of b (numbered (answered says))

-- the lines of the lost blocks
abbrev four : List ℕ
four =
    [] ++ line 0 nothing ++ line 1 nothing ++ line 5 nothing ++ line 6 (WorkedPlans.by (29 times 2 ∷ 161 times 3 ∷ []))

sample_lines : Each (λ (c : Case). Plans depot (standing c.lost) c.block (answered c.says)) (drop 12 cases) → Lines depot st 7 four
unfolding marks_of with_mark marked ◌⊕◌
sample_lines (also a (also b (also c (also d end)))) =
    lost (lost (present (present (present (lost (lost none refl a) refl b) refl) refl) refl) refl c) refl d

sample_listed : Listed depot st (layout_text depot.k (blocks depot) ++ four)
sample_listed = lines {text = four} (rw depot_blocks.1 (sample_lines (last 12 cases_answered)))

-- the text of the definitions is the document's
sample_text_lem : layout_text depot.k (blocks depot) ++ four ≡ sample_text
unfolding decimal items_text list_of coefs put ◌⊕◌ depot layout_of datas redundants over over_in
sample_text_lem = refl

whole : Whole (blocks depot) sample_rest
unfolding depot layout_of datas redundants over over_in
whole = record { range = in_range; size = refl }

follows : Follows depot sample_rest sample_text
unfolding little
follows = met whole (met unmarked (rw sample_text_lem at sample_listed))

-- THE SAMPLE'S TEXT
pub sample_says : Says sample_input sample_text
sample_says = met {text = sample_text} (λ _. omega arith) (rw depot_read follows)
