-- Proved: the items of a plan, one after another, and how long they can be.
use Prim.Native.Nat.{ℕ, zero, suc, ◌+◌, ◌*◌, ◌<◌, ◌≤◌}
use mathlib.Core.Path.{◌≡◌, ap₂, ◌∙◌}
use mathlib.Core.List.{List, ◌++◌}
use native.Mathlib.Omega.{arith}
use native.Mathlib.Numerals.{add-one}
use native.Mathlib.Decide.{ℕ_discrete}
use lib.ListN.{length, get_or, take, length-take, length-append}
use lib.Seq.{get_or-take}
use Rattle.text.specs.Text.{item_text, items_text}
use Rattle.text.proofs.Digits.{decimal_below, decimal_short}

abbrev item : List ℕ → List ℕ → ℕ → List ℕ
item block coef i = item_text (get_or block i 0) (get_or coef i 0)

pub items_more : (block coef : List ℕ) (i : ℕ) → items_text block coef (i + 1) ≡ items_text block coef i ++ item block coef i
unfolding items_text
items_more block coef i = rw (add-one i)

-- an item that is listed has its room
pub items_room : (block coef : List ℕ) (i m : ℕ) → i < m
    → length (items_text block coef i) + length (item block coef i) ≤ length (items_text block coef m)
unfolding items_text
items_room block coef i zero h = absurd (omega arith)
items_room block coef i (suc m) h = at (λ k. items_room block coef i m k) (ℕ_discrete i m)
  where
    at : (i < m → length (items_text block coef i) + length (item block coef i) ≤ length (items_text block coef m)) → Dec (i ≡ m)
        → length (items_text block coef i) + length (item block coef i) ≤ length (items_text block coef m ++ item block coef m)
    at ih (yes e) = rw e (omega (arith, length-append (items_text block coef m) (item block coef m)))
    at ih (no n) = omega (arith, length-append (items_text block coef m) (item block coef m), ih (omega arith))

-- a turn over the first m blocks and their coefficients
pub item_listed : (block coef : List ℕ) (i m : ℕ) {s c : ℕ}
    → (i < length (take m block)) × (i < length (take m coef)) × ((d : ℕ) → s ≡ get_or (take m block) i d) × ((d : ℕ) → c ≡ get_or (take m coef) i d)
    → (i < m) × (item_text s c ≡ item block coef i)
item_listed block coef i m t =
    let l : i < m = omega (arith, t.0, length-take m block) in
    (l, ap₂ item_text (t.2 0 ∙ get_or-take m block i 0 l) (t.3 0 ∙ get_or-take m coef i 0 l))

item_short : (s c : ℕ) → s < 48 → length (item_text s c) ≤ 7
item_short s c h = simp length-append (omega (arith, decimal_below s (omega arith), decimal_short c))

pub items_short : (block coef : List ℕ) (m : ℕ) → ((i : ℕ) → i < m → get_or block i 0 < 48) → length (items_text block coef m) ≤ 7 * m
unfolding items_text
items_short block coef zero h = omega arith
items_short block coef (suc m) h =
    omega (
      arith,
      length-append (items_text block coef m) (item block coef m),
      item_short (get_or block m 0) (get_or coef m 0) (h m (omega arith)),
      items_short block coef m (λ i l. h i (omega arith)),
    )
