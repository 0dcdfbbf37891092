-- Proved: one text fits an input, and one outcome a call.
use Prim.Native.Nat.{ℕ, ◌<◌}
use mathlib.Core.Path.{◌≡◌, refl, sym, ap, ap₂, ◌∙◌}
use mathlib.Core.List.{List, ◌++◌}
use native.Mathlib.Omega.{arith}
use native.Mathlib.Decide.{dec_lt}
use lib.ListN.{length, take, drop}
use Rattle.linear.proofs.Sets.{in_and_out}
use Rattle.note.specs.Note.{Outcome, read_note}
use Rattle.note.specs.Note.Outcome.{layout, refusal}
use Rattle.groups.specs.declared.Layout.{Layout}
use Rattle.rows.specs.Rows.{blocks}
use Rattle.plan.specs.declared.Standing.{Standing}
use Rattle.plan.proofs.Verdicts.{plans_unique}
use Rattle.text.specs.Text.{layout_text}
use Rattle.input.specs.Input.{note_size, standing_in}
use Rattle.loss.specs.Line.{line_of}
use Rattle.losses.specs.Lines.{numbered, Lines, none, present, lost}
use Rattle.report.specs.Report.{Listed, lines, Asks, met, unmet, Read, Says, Printed, Report}

lines_unique : (l : Layout) (st : Standing) {b : ℕ} {s t : List ℕ} → Lines l st b s → Lines l st b t → s ≡ t
lines_unique l st none none = refl
lines_unique l st (present x e) (present y f) = lines_unique l st x y
lines_unique l st (present x e) (lost y f p) = in_and_out f e
lines_unique l st (lost x e p) (present y f) = in_and_out e f
lines_unique l st (lost {b} x e p) (lost y f q) =
    ap₂ (λ (u v : List ℕ). u ++ v) (lines_unique l st x y) (ap (λ r. line_of b (numbered r)) (plans_unique l st b p q))

listed_unique : (l : Layout) (st : Standing) {s t : List ℕ} → Listed l st s → Listed l st t → s ≡ t
listed_unique l st (lines x) (lines y) = ap (λ (u : List ℕ). layout_text l.k (blocks l) ++ u) (lines_unique l st x y)

-- one text fits a question, if one fits what is asked next
abbrev One : (List ℕ → Type 0) → Type 0
One P = (s t : List ℕ) → P s → P t → s ≡ t

asks_unique : {P : Type 0} {number : ℕ} {Next : List ℕ → Type 0} → One Next → One (Asks P number Next)
asks_unique u s t (met p x) (met q y) = u s t x y
asks_unique u s t (met p x) (unmet n) = absurd (n p)
asks_unique u s t (unmet n) (met q y) = absurd (n q)
asks_unique u s t (unmet n) (unmet m) = refl

read_unique : (o : Outcome) (rest : List ℕ) → One (Read o rest)
read_unique (layout l) rest = asks_unique (asks_unique (λ s t. listed_unique l (standing_in rest)))
read_unique (refusal number offset) rest = λ s t x y. x ∙ sym y

-- ONE TEXT FITS
pub says_unique : (input : List ℕ) → One (Says input)
says_unique input = asks_unique (read_unique (read_note (take (note_size input) input)) (drop (note_size input) input))

-- so `report` has one outcome
pub report_unique : (input old new new' : List ℕ) (r r' : ℕ) → Report input old new r → Report input old new' r' → (r ≡ r') × (new ≡ new')
report_unique input old new new' r r' x y = at (dec_lt (length old) 12288)
  where
    printed : Printed input old new r → Printed input old new' r' → (r ≡ r') × (new ≡ new')
    printed p q =
        let e = says_unique input p.text q.text p.says q.says in
        (p.size ∙ ap length e ∙ sym q.size, p.bytes ∙ ap (λ (t : List ℕ). t ++ drop (length t) old) e ∙ sym q.bytes)

    at : Dec (length old < 12288) → (r ≡ r') × (new ≡ new')
    at (yes h) = ((x.small h).0 ∙ sym (y.small h).0, (x.small h).1 ∙ sym (y.small h).1)
    at (no h) = printed (x.printed (omega arith)) (y.printed (omega arith))
