-- Proved: no two refusals have one number.
use mathlib.Core.Path.{◌≡◌, refl, sym, ap, ◌∙◌}
use mathlib.Core.Bool.{cond}
use Prim.Native.Nat.{ℕ}
use lib.Dec.{eqb}
use Rattle.plan.specs.declared.Refusal.{Refusal}
use Rattle.plan.specs.declared.Refusal.TheVariants.{Layout, Length, Marks, Block, Present, Lost, Range, Spare, NoPlan, NotANumber, Unprotected}
use Rattle.plan.specs.Refusals.{number}

-- the refusal of a number
abbrev numbered : ℕ → Refusal
numbered m =
    cond (eqb m 6) Layout
    (cond (eqb m 7) Length
    (cond (eqb m 8) Marks
    (cond (eqb m 9) Block
    (cond (eqb m 10) Present
    (cond (eqb m 11) Lost
    (cond (eqb m 12) Range
    (cond (eqb m 13) Spare
    (cond (eqb m 14) NoPlan
    (cond (eqb m 15) NotANumber Unprotected)))))))))

back : (e : Refusal) → numbered (number e) ≡ e
back Layout = refl
back Length = refl
back Marks = refl
back Block = refl
back Present = refl
back Lost = refl
back Range = refl
back Spare = refl
back NoPlan = refl
back NotANumber = refl
back Unprotected = refl

pub number_injective : (d e : Refusal) → number d ≡ number e → d ≡ e
number_injective d e q = sym (back d) ∙ ap numbered q ∙ back e
