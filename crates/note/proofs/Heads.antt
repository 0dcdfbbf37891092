-- Proved: what the head of a record says of the bytes.
use Prim.Native.Nat.{ℕ, ◌+◌, ◌≤◌, ◌<◌}
use mathlib.Core.Path.{◌≡◌, refl, subst}
use mathlib.Core.List.{List}
use native.Mathlib.Omega.{arith}
use lib.ListN.{get_or}
use Rattle.groups.proofs.Picks.{by_lt, by_eq}
use Rattle.note.specs.Note.Head.{Bad, Leaf, Branch}
use Rattle.note.specs.Note.{Head, length_at, kind_at, leaf_at, branch_at, record_at, head_at}

-- what a head says of the bytes from `at` on, in what ends at `end`
abbrev pub Says : List ℕ → ℕ → ℕ → Head → Type 0
Says s at end (Bad number) = 0 < number
Says s at end (Leaf h d) =
    (at + 6 ≤ end) × (length_at s at ≡ 4) × (kind_at s at ≡ 1) × (get_or s (at + 4) 0 ≡ h) × (get_or s (at + 5) 0 ≡ d) × (0 < d)
Says s at end (Branch h len) =
    (at + 2 + len ≤ end) × (length_at s at ≡ len) × (kind_at s at ≡ 2) × (get_or s (at + 4) 0 ≡ h) × (3 ≤ len)

pub says : (s : List ℕ) (at end : ℕ) → Says s at end (head_at s at end)
unfolding head_at record_at leaf_at branch_at
says s at end =
    by_lt P _ _ (λ a. omega arith)
    (λ a. by_lt P _ _ (λ b. omega arith)
    (λ b. by_lt P _ _ (λ c. omega arith)
    (λ c. by_eq P _ _
    (λ e. by_eq P _ _
    (λ f. by_eq P _ _ (λ g. omega arith) (λ g. (omega arith, f, e, refl, refl, omega arith)))
    (λ f. omega arith))
    (λ e. by_eq P _ _
    (λ f. by_lt P _ _ (λ g. omega arith) (λ g. (omega arith, refl, f, refl, g)))
    (λ f. omega arith)))))
  where
    P : Head → Type 0
    P hd = Says s at end hd

pub head_says : (s : List ℕ) (at end : ℕ) (hd : Head) → head_at s at end ≡ hd → Says s at end hd
head_says s at end hd e = subst (Says s at end) e (says s at end)
