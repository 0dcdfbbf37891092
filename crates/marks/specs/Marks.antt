-- Believed: document 01, "A depot pair worked through": "eight bytes of lost marks (lowest bit block 0)". A set of blocks as a number of 64 bits, in
-- which bit b is the mark of block b. Every number is a set; what is below uses the laws in proofs/Bits and looks at no bit.
use Rattle.std.specs.Prelude.{Bool, cond, ℕ, ◌/◌, ◌%◌, ◌^◌, eqb, ltb}
use Rattle.field.specs.Field.{◌⊕◌}

-- block b is marked
unfoldable pub marked : ℕ → ℕ → Bool
marked m b = eqb (m / 2 ^ b % 2) 1

-- m with the mark of block b
unfoldable pub with_mark : ℕ → ℕ → ℕ
with_mark m b = cond (marked m b) m (m ⊕ 2 ^ b)

-- m without the mark of block b
unfoldable pub without_mark : ℕ → ℕ → ℕ
without_mark m b = cond (marked m b) (m ⊕ 2 ^ b) m

-- no block from n on is marked: m is below the first number that has the mark of block n
unfoldable pub none_from : ℕ → ℕ → Bool
none_from m n = ltb m (2 ^ n)
