-- Proved: a chain of tests, followed one test at a time: what z is where a test held or failed, and what holds of the outcome of a test if it
-- holds on both sides.
use Prim.Native.Nat.{ℕ, ◌≤◌, ◌<◌}
use mathlib.Core.Path.{◌≡◌, refl}
use mathlib.Core.Bool.{Bool, true, false, cond}
use lib.Dec.{ltb, eqb}
use borrow.Author.Tests.{le-ltb, lt-ltb, eq-eqb, ne_eqb, ltb-true, ltb-false, eqb-true, eqb-false}
use Rattle.groups.specs.Groups.{if_lt, if_eq}

pub lt_yes : {A : Type 0} {a b : ℕ} {x z : A} (y : A) → a < b → z ≡ x → z ≡ if_lt a b x y
unfolding if_lt
lt_yes {a = a} {b = b} y h p = rw (lt-ltb a b h) p

pub lt_no : {A : Type 0} {a b : ℕ} {y z : A} (x : A) → b ≤ a → z ≡ y → z ≡ if_lt a b x y
unfolding if_lt
lt_no {a = a} {b = b} x h p = rw (le-ltb a b h) p

pub eq_yes : {A : Type 0} {a b : ℕ} {x z : A} (y : A) → a ≡ b → z ≡ x → z ≡ if_eq a b x y
unfolding if_eq
eq_yes {a = a} {b = b} y h p = rw (eq-eqb a b h) p

pub eq_no : {A : Type 0} {a b : ℕ} {y z : A} (x : A) → (a ≡ b → ⊥) → z ≡ y → z ≡ if_eq a b x y
unfolding if_eq
eq_no {a = a} {b = b} x h p = rw (ne_eqb a b h) p

pub by_lt : {A : Type 0} (P : A → Type 0) (a b : ℕ) {x y : A} → (a < b → P x) → (b ≤ a → P y) → P (if_lt a b x y)
unfolding if_lt
by_lt P a b {x} {y} f g = go (ltb a b) refl
  where
    go : (t : Bool) → ltb a b ≡ t → P (cond t x y)
    go true e = f (ltb-true a b e)
    go false e = g (ltb-false a b e)

pub by_eq : {A : Type 0} (P : A → Type 0) (a b : ℕ) {x y : A} → (a ≡ b → P x) → ((a ≡ b → ⊥) → P y) → P (if_eq a b x y)
unfolding if_eq
by_eq P a b {x} {y} f g = go (eqb a b) refl
  where
    go : (t : Bool) → eqb a b ≡ t → P (cond t x y)
    go true e = f (eqb-true a b e)
    go false e = g (eqb-false a b e)
