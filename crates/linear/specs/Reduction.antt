-- Inside: triangular elimination, as functions. A vector has a row in the columns below w and, from column w on, its expression: a coefficient
-- for each of the n blocks. No public contract names what stands here.
use Rattle.std.specs.Prelude.{◌≡◌, Bool, true, false, ℕ, zero, suc, ◌+◌, ◌<◌}
use Rattle.field.specs.Field.{◌⊕◌, mul}
use Rattle.linear.specs.Combinations.{comb, Independent}

-- v after the slots below p of B have been taken out of it, each at its pivot
unfoldable pub red : (ℕ → ℕ → ℕ) → (ℕ → ℕ) → ℕ → (ℕ → ℕ) → ℕ → ℕ
red B P zero v i = v i
red B P (suc p) v i = red B P p v i ⊕ mul (red B P p v (P p)) (B p i)

-- m slots of bytes, each with a 1 at its own pivot and a 0 at those before
pub record Triangular (w : ℕ) (B : ℕ → ℕ → ℕ) (P : ℕ → ℕ) (m : ℕ) : Type 0 where
  pub byte : (p i : ℕ) → B p i < 256
  pub col : (p : ℕ) → p < m → P p < w
  pub one : (p : ℕ) → p < m → B p (P p) ≡ 1
  pub low : (p q : ℕ) → p < m → q < p → B p (P q) ≡ 0

-- v's row is t and the combination that v's expression tells; the expression names blocks of S alone
pub record Expressed (n w : ℕ) (R : ℕ → ℕ → ℕ) (S : ℕ → Bool) (t v : ℕ → ℕ) : Type 0 where
  pub sum : (i : ℕ) → i < w → v i ≡ t i ⊕ comb n (λ s. v (w + s)) R i
  pub out : (s : ℕ) → s < n → S s ≡ false → v (w + s) ≡ 0

-- the rows of S stand in the m slots of B: the slots are combinations of them, and they of the slots
pub record Eliminated (n w : ℕ) (R : ℕ → ℕ → ℕ) (S : ℕ → Bool) (B : ℕ → ℕ → ℕ) (P : ℕ → ℕ) (m : ℕ) : Type 0 where
  pub triangular : Triangular w B P m
  pub told : (p : ℕ) → p < m → Expressed n w R S (λ _. 0) (B p)
  pub via : ℕ → ℕ → ℕ
  pub spans : (s : ℕ) → s < n → S s ≡ true → (i : ℕ) → i < w → R s i ≡ comb m (via s) B i
  pub independent : Independent n w R S
