-- Inside: what the functions of the elimination ask and leave. A vector is a list of 80 bytes, a row of 32 and its expression over 48 blocks; a
-- basis has 32 slots, each such a vector with its pivot. No public contract names what stands here.
use Rattle.std.specs.Prelude.{List, [], ◌⊎◌, Bool, ◌≡◌, ℕ, ◌+◌, ◌<◌, ◌≤◌, get_or, length}
use Rattle.field.specs.Field.{mul, inv}
use Rattle.linear.specs.Sums.{put}
use Rattle.linear.specs.Greedy.{Kept}
use Rattle.linear.specs.Reduction.{red, Eliminated}
use Rattle.linear.specs.Solved.{vec, row_of}
use Rattle.linear.specs.declared.Slot.{Slot}

abbrev pub blank : Slot
blank = record { vector = []; pivot = 0 }

-- byte i of the vector in slot p
abbrev pub slot : List Slot → ℕ → ℕ → ℕ
slot l p i = get_or (get_or l p blank).vector i 0

abbrev pub pivot : List Slot → ℕ → ℕ
pivot l p = (get_or l p blank).pivot

-- what `vector` answers: a row, and the expression that has e at block b
pub record Filled (row : List ℕ) (b e : ℕ) (r : List ℕ) : Type 0 where
  pub len : length r ≡ 80
  pub row_part : (i : ℕ) → i < 32 → get_or r i 0 ≡ get_or row i 0
  pub unit_part : (s : ℕ) → s < 48 → get_or r (32 + s) 0 ≡ put b e (λ _. 0) s

-- i is the first column below 32 that is not zero
pub record Leading (v : List ℕ) (i : ℕ) : Type 0 where
  pub within : i < 32
  pub none : (k : ℕ) → k < i → get_or v k 0 ≡ 0
  pub some : 0 < get_or v i 0

-- 32 slots, of which count are in use and the others zeros, vector and pivot
pub record Shape (slots : List Slot) (count : ℕ) : Type 0 where
  pub long : length slots ≡ 32
  pub most : count ≤ 32
  pub low : (p : ℕ) → p < count → pivot slots p < 32
  pub byte : (p i : ℕ) → slot slots p i < 256
  pub fresh : (p i : ℕ) → count ≤ p → slot slots p i ≡ 0
  pub fresh_col : (p : ℕ) → count ≤ p → pivot slots p ≡ 0

-- what `reduce` leaves of v
pub record Reduced (v : List ℕ) (slots : List Slot) (count : ℕ) (r : List ℕ) : Type 0 where
  pub len : length r ≡ 80
  pub at : (i : ℕ) → i < 80 → get_or r i 0 ≡ red (slot slots) (pivot slots) count (vec v) i

-- v's row is reduced to zeros: nothing is stored
pub record Dropped (v : List ℕ) (slots : List Slot) (count : ℕ) (slots' : List Slot) (count' : ℕ) : Type 0 where
  pub count_same : count' ≡ count
  pub slots_same : slots' ≡ slots
  pub zeros : (i : ℕ) → i < 32 → red (slot slots) (pivot slots) count (vec v) i ≡ 0

-- what is left of v is normalised and stored in the slot count
pub record Stored (v : List ℕ) (slots : List Slot) (count : ℕ) (slots' : List Slot) (count' : ℕ) : Type 0 where
  pub count_more : count' ≡ count + 1
  pub col : ℕ
  pub within : col < 32
  pub some : 0 < red (slot slots) (pivot slots) count (vec v) col
  pub old : (p i : ℕ) → p < count → i < 80 → slot slots' p i ≡ slot slots p i
  pub old_col : (p : ℕ) → p < count → pivot slots' p ≡ pivot slots p
  pub new : (i : ℕ) → i < 80
      → slot slots' count i ≡ mul (inv (red (slot slots) (pivot slots) count (vec v) col)) (red (slot slots) (pivot slots) count (vec v) i)
  pub new_col : pivot slots' count ≡ col

-- what `absorb` leaves
pub record Absorbed (v : List ℕ) (slots : List Slot) (count : ℕ) (slots' : List Slot) (count' : ℕ) : Type 0 where
  pub shape : Shape slots' count'
  pub either : Dropped v slots count slots' count' ⊎ Stored v slots count slots' count'

-- the survivors at the places below j are taken in: those kept stand in the basis
pub record Taken (rows order : List ℕ) (slots : List Slot) (count j : ℕ) : Type 0 where
  pub shape : Shape slots count
  pub kept : ℕ → Bool
  pub choice : Kept 48 32 (row_of rows) (vec order) j kept
  pub state : Eliminated 48 32 (row_of rows) kept (slot slots) (pivot slots) count
