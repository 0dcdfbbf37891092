-- Proved: which facts make a price, and that at most one price fits.
use mathlib.Core.Path.{◌≡◌, refl, sym, ap, ◌∙◌}
use mathlib.Core.Logic.{inr}
use Prim.Native.Nat.{ℕ}
use Rattle.std.specs.Prelude.{Result, Ok, Err, Some}
use native.Mathlib.Omega.{arith}
use Rattle.groups.specs.declared.Layout.{Layout}
use Rattle.given.specs.Given.{Given}
use Rattle.rows.specs.Rows.{blocks}
use Rattle.calls.proofs.Needs.{undone, done_met, first_unique}
use Rattle.plan.specs.declared.Refusal.{Refusal}
use Rattle.plan.proofs.Refusals.{number_injective}
use Rattle.plan.proofs.Verdicts.{number_of}
use Rattle.price.specs.declared.Limits.{Limits}
use Rattle.price.specs.declared.Price.{Price}
use Rattle.price.specs.Sheet.{sheet_of, Numbers, needs, Priced}
use Rattle.price.specs.Inner.{ReadAll}
use Rattle.price.proofs.Totals.{reads_plan, reads_unique}

-- ---- the figures

module _ (l : Layout) (limits : Limits) (given : Given l) (numbers : Numbers limits) where
  pub priced_sheet : {t : ℕ} → ReadAll l (Some t) → (p : Price) → p ≡ sheet_of l.k (blocks l) t limits → Priced l limits (Ok p)
  priced_sheet {t} x p q =
      record { first = inr (given, inr (numbers, inr (reads_plan l given (omega arith) x.sum, refl))); figures = (t, x.sum, q) }

-- ---- at most one price fits

-- AT MOST ONE PRICE FITS
pub priced_unique : {l : Layout} {limits : Limits} {a b : Result Price Refusal} → Priced l limits a → Priced l limits b → a ≡ b
priced_unique {l = l} {limits = limits} {a = Ok a} {b = Ok b} p q =
    let given : Given l = (done_met (undone _) p.first).0 in
    let x = p.figures in
    let y = q.figures in
    ap Ok (x.2 ∙ ap (λ (t : ℕ). sheet_of l.k (blocks l) t limits) (reads_unique l given (omega arith) x.1 y.1) ∙ sym y.2)
priced_unique {l = l} {limits = limits} {a = Ok a} {b = Err e} p q = absurd (undone _ (first_unique (needs l limits) p.first q.first))
priced_unique {l = l} {limits = limits} {a = Err d} {b = Ok b} p q = absurd (undone _ (first_unique (needs l limits) q.first p.first))
priced_unique {l = l} {limits = limits} {a = Err d} {b = Err e} p q =
    ap Err (number_injective d e (ap number_of (first_unique (needs l limits) p.first q.first)))
