-- Inside: what the functions that lay a correction into a stripe ask and leave, over lists of bytes: document 01, "Repairs, corrections, reading". No
-- public contract names what stands here; what it comes to in the words of `calls` is in proofs/Effects.
use Rattle.std.specs.Prelude.{List, true, false, ◌≡◌, ℕ, ◌+◌, ◌*◌, ◌<◌, ◌≤◌, get_or, length}
use Rattle.field.specs.Field.{◌⊕◌, mul}
use Rattle.linear.specs.Solved.{row_of}
use Rattle.marks.specs.Marks.{marked}
use Rattle.calls.specs.Calls.{byte_of, laid}
use Rattle.corrections.specs.declared.Correction.{Correction}

-- what `lay` leaves: c times the difference d is added from position at on
pub record Laid (d : List ℕ) (c at : ℕ) (xs ys : List ℕ) : Type 0 where
  pub long : length ys ≡ length xs
  pub each : (p : ℕ) → get_or ys p 0 ≡ get_or xs p 0 ⊕ mul c (laid at d p)

-- what a correction of data block i asks: a matrix of 48 rows of 32 columns, a whole stripe, a difference that stays within the block
pub record Correctable (rows xs : List ℕ) (k n len i off : ℕ) (d : List ℕ) : Type 0 where
  pub matrix : length rows ≡ 1536
  pub columns : k ≤ 32
  pub fits : k ≤ n
  pub few : n ≤ 48
  pub whole : length xs ≡ n * len
  pub number : i < k
  pub stays : off + length d ≤ len

-- what `touch` leaves: block b has its multiple of the difference, or is lost and nothing changes
pub record Touched (rows : List ℕ) (lost len i off : ℕ) (d : List ℕ) (b : ℕ) (xs ys : List ℕ) : Type 0 where
  pub present : marked lost b ≡ false → Laid d (row_of rows b i) (b * len + off) xs ys
  pub missing : marked lost b ≡ true → ys ≡ xs

-- what `spread` leaves: of the redundant blocks below m, each that is not lost has its multiple of the difference; nothing else changes
pub record Spread (rows : List ℕ) (lost len k i off : ℕ) (d : List ℕ) (m : ℕ) (xs ys : List ℕ) : Type 0 where
  pub long : length ys ≡ length xs
  pub present : (b x : ℕ) → k ≤ b → b < m → marked lost b ≡ false → x < len
      → byte_of len ys b x ≡ byte_of len xs b x ⊕ mul (row_of rows b i) (laid off d x)
  pub missing : (b x : ℕ) → k ≤ b → b < m → marked lost b ≡ true → x < len → byte_of len ys b x ≡ byte_of len xs b x
  pub others : (b x : ℕ) → b < k → x < len → byte_of len ys b x ≡ byte_of len xs b x
  pub later : (b x : ℕ) → m ≤ b → x < len → byte_of len ys b x ≡ byte_of len xs b x

-- what `correct_all` leaves: "bytes to be XORed into a data block from an offset. Each surviving redundant block .. gets coefficient times difference at
-- the same offsets. Lost blocks are not touched."
pub record CorrectedList (rows : List ℕ) (lost len k n i off : ℕ) (d xs ys : List ℕ) : Type 0 where
  pub long : length ys ≡ length xs
  pub small : (j : ℕ) → get_or d j 0 < 256
  pub block : (x : ℕ) → x < len → byte_of len ys i x ≡ byte_of len xs i x ⊕ laid off d x
  pub others : (b x : ℕ) → b < k → (b ≡ i → ⊥) → x < len → byte_of len ys b x ≡ byte_of len xs b x
  pub present : (b x : ℕ) → k ≤ b → b < n → marked lost b ≡ false → x < len
      → byte_of len ys b x ≡ byte_of len xs b x ⊕ mul (row_of rows b i) (laid off d x)
  pub missing : (b x : ℕ) → k ≤ b → b < n → marked lost b ≡ true → x < len → byte_of len ys b x ≡ byte_of len xs b x

-- ---- the same of a correction, by its fields

abbrev pub Asks : Correction → List ℕ → Type 0
Asks c xs = Correctable c.rows.now xs c.k c.n c.len c.i c.off c.diff.now

abbrev pub Touches : Correction → ℕ → List ℕ → List ℕ → Type 0
Touches c b xs ys = Touched c.rows.now c.lost c.len c.i c.off c.diff.now b xs ys

abbrev pub Spreads : Correction → ℕ → List ℕ → List ℕ → Type 0
Spreads c m xs ys = Spread c.rows.now c.lost c.len c.k c.i c.off c.diff.now m xs ys

abbrev pub CorrectsAll : Correction → List ℕ → List ℕ → Type 0
CorrectsAll c xs ys = CorrectedList c.rows.now c.lost c.len c.k c.n c.i c.off c.diff.now xs ys
