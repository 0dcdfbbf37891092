-- Proved: what a call's result and its answer in the words of `calls` tell of each other, and of the numbers that the store says.
use mathlib.Core.Path.{◌≡◌, refl, sym, ap, ◌∙◌}
use mathlib.Core.Bool.{cond}
use Prim.Native.Nat.{ℕ, zero, suc, ◌<◌}
use native.Mathlib.Omega.{arith}
use lib.Dec.{eqb}
use Rattle.std.specs.Prelude.{Result, Ok, Err, IsOk, IsErr}
use Rattle.groups.specs.declared.Layout.{Layout}
use Rattle.groups.specs.declared.Fault.{Fault}
use Rattle.groups.specs.declared.Fault.TheVariants as What
use Rattle.groups.specs.Groups as Groups
use Rattle.note.specs.declared.Refused as Note
use Rattle.note.specs.Note.{outcome}
use Rattle.calls.specs.Calls.{Answer, by, naming, done, refused}
use Rattle.plan.specs.declared.Standing.{Standing}
use Rattle.plan.specs.declared.Refusal.{Refusal}
use Rattle.plan.specs.declared.Refusal.TheVariants as Why
use Rattle.plan.specs.Refusals as Refusals
use Rattle.plan.specs.Refusals.{said}
use Rattle.plan.proofs.Refusals.{number_injective}
use Rattle.plan.proofs.Verdicts.{number_of}
use Rattle.shape.specs.Shapes.{after}
use Rattle.repairs.specs.declared.Unrebuilt.{Unrebuilt}
use Rattle.repairs.specs.declared.Unrebuilt.TheVariants.{Refused, NoPlan}
use Rattle.repairs.specs.Repairs.{told}
use Rattle.store.specs.declared.Said.{Said}
use Rattle.store.specs.Answers.{spoken, named}
use Rattle.demands.specs.Runs.{numbered}
use Rattle.demands.specs.Table.{number}

-- no refusal has the number 0
pub positive : (e : Refusal) → 0 < Refusals.number e
positive Why.Layout = omega arith
positive _ = omega arith

-- ---- results

-- a result is known by its answer, and by what comes with it
pub said_one : {A : Type 0} (r r' : Result A Refusal) → said r ≡ said r' → ((x y : A) → r ≡ Ok x → r' ≡ Ok y → x ≡ y) → r ≡ r'
said_one (Ok x) (Ok y) e h = ap Ok (h x y refl refl)
said_one (Ok x) (Err d) e h = cc
said_one (Err c) (Ok y) e h = cc
said_one (Err c) (Err d) e h = ap Err (number_injective c d cc)

pub told_one : {A : Type 0} (r r' : Result A Unrebuilt) → told r ≡ told r' → ((x y : A) → r ≡ Ok x → r' ≡ Ok y → x ≡ y) → r ≡ r'
told_one (Ok x) (Ok y) e h = ap Ok (h x y refl refl)
told_one (Ok x) (Err (Refused d)) e h = cc
told_one (Ok x) (Err (NoPlan b)) e h = cc
told_one (Err (Refused c)) (Ok y) e h = cc
told_one (Err (Refused c)) (Err (Refused d)) e h = ap (λ (f : Refusal). Err (Refused f)) (number_injective c d cc)
told_one (Err (Refused c)) (Err (NoPlan b)) e h = cc
told_one (Err (NoPlan a)) (Ok y) e h = cc
told_one (Err (NoPlan a)) (Err (Refused d)) e h = cc
told_one (Err (NoPlan a)) (Err (NoPlan b)) e h = let f : a ≡ b = cc in ap (λ (x : ℕ). Err (NoPlan x)) f

pub said_unit : (r r' : Result (Unit {0}) Refusal) → said r ≡ said r' → r ≡ r'
said_unit r r' e = said_one r r' e (λ x y f g. refl)

-- a result that carries the standing, by its answer and the standing after it
module _ (st : Standing) where
  pub stood_one : (r r' : Result Standing Refusal) → said r ≡ said r' → after st r ≡ after st r' → r ≡ r'
  stood_one r r' e f = said_one r r' e (λ x y p q. rw (p, q) at f)

  pub rebuilt_one : (r r' : Result Standing Unrebuilt) → told r ≡ told r' → after st r ≡ after st r' → r ≡ r'
  rebuilt_one r r' e f = told_one r r' e (λ x y p q. rw (p, q) at f)

-- an accepted one is Ok
pub said_ok : {A : Type 0} (r : Result A Refusal) → said r ≡ done → IsOk r
said_ok (Ok x) e = refl
said_ok (Err c) e = cc

pub said_14 : {A : Type 0} (r : Result A Refusal) → said r ≡ refused (by 14) → r ≡ Err Why.NoPlan
said_14 (Ok x) e = cc
said_14 (Err c) e = ap Err (number_injective c Why.NoPlan cc)

-- ---- the result of a reading

-- the fault of a number
abbrev fault : ℕ → Fault
fault m = cond (eqb m 1) What.End (cond (eqb m 2) What.Kind (cond (eqb m 3) What.Body (cond (eqb m 4) What.Extra What.Bounds)))

fault_back : (f : Fault) → fault (Groups.number f) ≡ f
fault_back What.End = refl
fault_back _ = refl

pub outcome_one : (r r' : Result Layout Note.Refused) → outcome r ≡ outcome r' → r ≡ r'
outcome_one (Ok l) (Ok k) e = let f : l ≡ k = cc in ap Ok f
outcome_one (Ok l) (Err b) e = cc
outcome_one (Err a) (Ok k) e = cc
outcome_one (Err a) (Err b) e =
    let n : Groups.number a.fault ≡ Groups.number b.fault = cc in
    let f : a.fault ≡ b.fault = sym (fault_back a.fault) ∙ ap fault n ∙ fault_back b.fault in
    let g : a.offset ≡ b.offset = cc in
    ap Err (λ i. record { fault = f i; offset = g i })

-- ---- numbers

pub said_number : {A : Type 0} (r : Result A Refusal) → number_of (said r) ≡ number r
said_number (Ok x) = refl
said_number (Err e) = refl

-- a result whose number is not 0 is no Ok
pub number_err : {A : Type 0} (r : Result A Refusal) → (number_of (said r) ≡ 0 → ⊥) → IsErr r
number_err (Ok x) n = absurd (n refl)
number_err (Err e) n = refl

-- only what is accepted has the number 0
pub said_0 : {A : Type 0} (r : Result A Refusal) → number_of (said r) ≡ 0 → said r ≡ done
said_0 (Ok x) e = refl
said_0 (Err c) e = absurd (omega (arith, positive c))

pub told_0 : {A : Type 0} (r : Result A Unrebuilt) → number_of (told r) ≡ 0 → told r ≡ done
told_0 (Ok x) e = refl
told_0 (Err (Refused c)) e = absurd (omega (arith, positive c))
told_0 (Err (NoPlan b)) e = absurd (omega arith)

-- and the number of a result is its answer
pub numbered_said : {A : Type 0} (r : Result A Refusal) → numbered (number_of (said r)) ≡ said r
numbered_said (Ok x) = refl
numbered_said (Err e) = at (Refusals.number e) (positive e)
  where
    at : (m : ℕ) → 0 < m → numbered m ≡ refused (by m)
    at zero l = absurd (omega arith)
    at (suc m) l = refl

-- ---- what the store says

-- an answer in the store's numbers
abbrev pub saying : Answer → Said
saying done = record { number = 0; block = 0 }
saying (refused (by m)) = record { number = m; block = 0 }
saying (refused (naming m b)) = record { number = m; block = b }

pub saying_number : (a : Answer) → (saying a).number ≡ number_of a
saying_number done = refl
saying_number (refused (by m)) = refl
saying_number (refused (naming m b)) = refl

pub spoken_says : {A : Type 0} (r : Result A Refusal) → spoken r ≡ saying (said r)
spoken_says (Ok x) = refl
spoken_says (Err e) = refl

pub named_says : {A : Type 0} (r : Result A Unrebuilt) → named r ≡ saying (told r)
named_says (Ok x) = refl
named_says (Err (Refused e)) = refl
named_says (Err (NoPlan b)) = refl
