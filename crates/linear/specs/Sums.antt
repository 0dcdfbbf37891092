-- Believed: document 01, "The layout note": "the sum, over the data blocks .., of coefficient times block". Vectors, and sums in the field: a vector is a
-- function from places, of which the first so many count.
use Rattle.std.specs.Prelude.{cond, ℕ, zero, suc, eqb}
use Rattle.field.specs.Field.{◌⊕◌}

-- f 0 ⊕ .. ⊕ f (m - 1)
unfoldable pub sum_to : ℕ → (ℕ → ℕ) → ℕ
sum_to zero f = 0
sum_to (suc m) f = sum_to m f ⊕ f m

-- f with x at the place b
unfoldable pub put : ℕ → ℕ → (ℕ → ℕ) → ℕ → ℕ
put b x f s = cond (eqb s b) x (f s)

-- a one at the place b, zeros elsewhere: "a data block's row is one 1 and zeros"
abbrev pub unit : ℕ → ℕ → ℕ
unit b = put b 1 (λ _. 0)
