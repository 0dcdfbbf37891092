-- Proved: `check` meets its contract: the five tests, in the order of the definition.
use mathlib.Core.Path.{refl, sym}
use native.Mathlib.Omega.{arith}
use Rattle.groups.specs.Groups.{bound_passed}
use Rattle.groups.proofs.Picks.{lt_yes, lt_no}
use Rattle.groups.proofs.Totals.{whatever, check_stops, check_ends}
use Rattle.groups.proofs.check.Goals as goal

pub returns-in_err-bounded : goal.returns-in_err-bounded
unfolding bound_passed
returns-in_err-bounded c =
    let e = c.in_err-bounded.ensures in
    check_stops _ c.from_residual.result _ c.from_residual.ensures.1 e.0 (sym (lt_yes _ (omega (arith, e.1)) refl))

pub returns-in_err-bounded-2 : goal.returns-in_err-bounded-2
unfolding bound_passed
returns-in_err-bounded-2 c =
    let e = c.in_err-bounded-2.ensures in
    check_stops _ c.from_residual-in_err-bounded-2.result _ c.from_residual-in_err-bounded-2.ensures.1 e.0
    (whatever _ _ (sym (lt_yes _ (omega (arith, e.1)) refl)))

pub returns-in_err-bounded-3 : goal.returns-in_err-bounded-3
unfolding bound_passed
returns-in_err-bounded-3 c =
    let e = c.in_err-bounded-3.ensures in
    check_stops _ c.from_residual-in_err-bounded-3.result _ c.from_residual-in_err-bounded-3.ensures.1 e.0
    (whatever _ _ (whatever _ _ (sym (lt_yes _ (omega (arith, e.1, c.from-3.ensures)) refl))))

pub returns-in_err-bounded-4 : goal.returns-in_err-bounded-4
unfolding bound_passed
returns-in_err-bounded-4 c =
    let e = c.in_err-bounded-4.ensures in
    check_stops _ c.from_residual-in_err-bounded-4.result _ c.from_residual-in_err-bounded-4.ensures.1 e.0
    (whatever _ _ (whatever _ _ (whatever _ _ (sym (lt_yes _ (omega (arith, e.1, c.from.ensures)) refl)))))

pub returns : goal.returns
unfolding bound_passed
returns c =
    check_ends _ _ _ _ c.bounded-5.ensures
    (λ h.
    sym (lt_no _ (omega (arith, c.in_ok-bounded.ensures)) (lt_no _ (omega (arith, c.in_ok-bounded-2.ensures))
    (lt_no _ (omega (arith, c.in_ok-bounded-3.ensures, c.from-3.ensures)) (lt_no _ (omega (arith, c.in_ok-bounded-4.ensures, c.from.ensures))
    (lt_no _ (omega (arith, h, c.from.ensures, c.from-2.ensures)) refl))))))
    (λ h.
    whatever _ _ (whatever _ _ (whatever _ _ (whatever _ _ (sym (lt_yes _ (omega (arith, h, c.from.ensures, c.from-2.ensures)) refl))))))
