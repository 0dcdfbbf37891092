-- Inside: what the functions on the blocks of a stripe ask and leave, over lists of bytes. No public contract names what stands here; what it comes to
-- in the words of `calls` is in proofs/Effects.
use Rattle.std.specs.Prelude.{List, ◌≡◌, ℕ, ◌+◌, ◌*◌, ◌<◌, ◌≤◌, get_or, length}
use Rattle.field.specs.Field.{◌⊕◌, mul}
use Rattle.linear.specs.Combinations.{comb}
use Rattle.linear.specs.Solved.{vec, row_of}
use Rattle.calls.specs.Calls.{byte_of}

-- ---- combinations of blocks

-- what a combination asks: every block that it reads, its coefficient not being zero, stands in the stripe
pub record Sources (xs coef : List ℕ) (len : ℕ) : Type 0 where
  pub inside : (s : ℕ) → s < length coef → (get_or coef s 0 ≡ 0 → ⊥) → s * len + len ≤ length xs

-- what a turn of `combine` leaves: block s times its coefficient is added
pub record Added (coef xs : List ℕ) (len from s : ℕ) (acc r : List ℕ) : Type 0 where
  pub long : length r ≡ length acc
  pub at : (x : ℕ) → x < length acc → get_or r x 0 ≡ get_or acc x 0 ⊕ mul (get_or coef s 0) (byte_of len xs s (from + x))

-- what `combine` leaves: the blocks below m are added, each times its coefficient
pub record Combined (coef xs : List ℕ) (len from m : ℕ) (acc r : List ℕ) : Type 0 where
  pub long : length r ≡ length acc
  pub at : (x : ℕ) → x < length acc → get_or r x 0 ≡ get_or acc x 0 ⊕ comb m (vec coef) (byte_of len xs) (from + x)

-- what `gather` leaves: the combination of all blocks
pub record Gathered (coef xs : List ℕ) (len : ℕ) (r : List ℕ) : Type 0 where
  pub long : length r ≡ len
  pub at : (x : ℕ) → x < len → get_or r x 0 ≡ comb (length coef) (vec coef) (byte_of len xs) x

-- what `make` asks: block b stands in the stripe too
pub record Makeable (xs coef : List ℕ) (len b : ℕ) : Type 0 where
  pub sources : Sources xs coef len
  pub room : b * len + len ≤ length xs
  pub short : len ≤ 1024

-- what `make` leaves: block b is the combination of the blocks as they were, every other position is as it was
pub record Made (coef : List ℕ) (len b : ℕ) (xs ys : List ℕ) : Type 0 where
  pub long : length ys ≡ length xs
  pub block : (x : ℕ) → x < len → byte_of len ys b x ≡ comb (length coef) (vec coef) (byte_of len xs) x
  pub before : (p : ℕ) → p < b * len → get_or ys p 0 ≡ get_or xs p 0
  pub after : (p : ℕ) → b * len + len ≤ p → get_or ys p 0 ≡ get_or xs p 0

-- ---- encoding

-- what `encode_all` asks: a matrix of 48 rows of 32 columns, of which a redundant block's are zero from k on, and a whole stripe
pub record Encodable (rows xs : List ℕ) (k n len : ℕ) : Type 0 where
  pub matrix : length rows ≡ 1536
  pub columns : k ≤ 32
  pub fits : k ≤ n
  pub few : n ≤ 48
  pub short : len ≤ 1024
  pub whole : length xs ≡ n * len
  pub zero : (b i : ℕ) → k ≤ b → b < n → k ≤ i → i < 32 → row_of rows b i ≡ 0

-- what `encode_all` leaves: every data byte as it was, the redundant blocks below m made of the data as lent
pub record EncodedList (rows : List ℕ) (len k m : ℕ) (xs ys : List ℕ) : Type 0 where
  pub long : length ys ≡ length xs
  pub kept : (p : ℕ) → p < k * len → get_or ys p 0 ≡ get_or xs p 0
  pub made : (b x : ℕ) → k ≤ b → b < m → x < len → byte_of len ys b x ≡ comb 32 (row_of rows b) (byte_of len xs) x
