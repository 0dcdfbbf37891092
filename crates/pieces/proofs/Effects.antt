-- Proved: what the functions on lists leave is what `calls` says of a stripe: an encoding, a repair, a block as its plan makes it. And bytes
-- that stand where a coefficient is zero, as in a lost block, count for nothing.
use mathlib.Core.List.{List}
use mathlib.Core.Bool.{Bool, false}
use mathlib.Core.Path.{◌≡◌, sym, ap, ◌∙◌}
use Prim.Native.Nat.{ℕ, ◌+◌, ◌*◌, ◌<◌, ◌≤◌}
use native.Mathlib.Omega.{arith}
use native.Mathlib.Decide.{dec_lt}
use lib.ListN.{length, get_or}
use Rattle.field.specs.Field.{mul}
use Rattle.field.proofs.Product.{mul_zero_l}
use Rattle.linear.specs.Sums.{sum_to}
use Rattle.linear.specs.Combinations.{comb}
use Rattle.linear.specs.Blocks.{dot}
use Rattle.linear.specs.Solved.{vec, row_of}
use Rattle.linear.proofs.Sums.{sum_cong, sum_less}
use Rattle.calls.specs.Code.{Code, enc, PlanOf}
use Rattle.calls.specs.Calls.{byte_of, stripe, Encoded, ByPlan, Repaired}
use Rattle.pieces.specs.Pieces.{Makeable, Gathered, Made, Encodable, EncodedList}
use Rattle.pieces.proofs.Blocks.{under}
use Rattle.pieces.proofs.Combining.{comb_agree, sources}

-- the code c has k data blocks, n blocks of len bytes, and its rows stand in the matrix
pub record Renders (c : Code) (rows : List ℕ) (k n len : ℕ) : Type 0 where
  pub data_blocks : c.k ≡ k
  pub blocks : c.n ≡ n
  pub bytes : c.L ≡ len
  pub row : (b i : ℕ) → b < n → i < k → c.row b i ≡ row_of rows b i

-- the list holds the plan of block b: its coefficients by block number, zeros past the last block
pub record Planned (c : Code) (lost : ℕ → Bool) (b : ℕ) (coef : List ℕ) : Type 0 where
  pub plan : PlanOf c lost b (vec coef)
  pub long : c.n ≤ length coef
  pub past : (s : ℕ) → c.n ≤ s → s < length coef → get_or coef s 0 ≡ 0

-- ---- encoding

module _ {rows : List ℕ} {k n len : ℕ} (c : Code) (R : Renders c rows k n len) where
  -- a row of 32 columns, zero from k on, makes the fresh encoding
  row_encodes : (b x : ℕ) (xs : List ℕ) → b < n → k ≤ 32 → ((i : ℕ) → k ≤ i → i < 32 → row_of rows b i ≡ 0)
      → comb 32 (row_of rows b) (byte_of len xs) x ≡ enc c (byte_of len xs) b x
  unfolding comb enc dot
  row_encodes b x xs l h z =
      sum_less k 32 (λ i. mul (row_of rows b i) (byte_of len xs i x)) h
      (λ i j m. ap (λ (y : ℕ). mul y (byte_of len xs i x)) (z i j m) ∙ mul_zero_l (byte_of len xs i x))
      ∙ sum_cong k (λ i j. ap (λ (y : ℕ). mul y (byte_of len xs i x)) (sym (R.row b i l j)))
      ∙ ap (λ (y : ℕ). sum_to y (λ i. mul (c.row b i) (byte_of len xs i x))) (sym R.data_blocks)

  pub encoded : {xs ys : List ℕ} → Encodable rows xs k n len → EncodedList rows len k n xs ys → (lost gone : ℕ → Bool) → ((b : ℕ) → gone b ≡ false)
      → Encoded c (stripe len lost xs) (stripe len gone ys)
  encoded {xs} {ys} E D lost gone g =
      record {
        marks = g;
        kept = λ i x l h. D.kept (i * len + x) (omega (arith, R.bytes, under len i k (omega (arith, R.data_blocks))));
        made = λ b x l m h.
            let p : k ≤ b = omega (arith, R.data_blocks) in
            let q : b < n = omega (arith, R.blocks) in
            D.made b x p q (omega (arith, R.bytes)) ∙ row_encodes b x xs q E.columns (λ i j o. E.zero b i p q j o);
      }

-- ---- blocks by their plan

module _ {coef : List ℕ} {len b : ℕ} (c : Code) (lost : ℕ → Bool) (e : c.L ≡ len) (P : Planned c lost b coef) where
  -- the coefficients past the last block add nothing
  plan_sum : (xs : List ℕ) (x : ℕ) → comb (length coef) (vec coef) (byte_of len xs) x ≡ sum_to c.n (λ a. mul (get_or coef a 0) (byte_of len xs a x))
  unfolding comb
  plan_sum xs x =
      sum_less c.n (length coef) (λ a. mul (get_or coef a 0) (byte_of len xs a x)) P.long
      (λ a l h. ap (λ (y : ℕ). mul y (byte_of len xs a x)) (P.past a l h) ∙ mul_zero_l (byte_of len xs a x))

  -- what is gathered is the block as its plan makes it
  pub by_plan : {xs r : List ℕ} → Gathered coef xs len r → ByPlan c lost (stripe len lost xs) b (vec r)
  by_plan {xs} G = record { coef = vec coef; plan = P.plan; sum = λ x l. G.at x (omega (arith, e)) ∙ plan_sum xs x }

  -- what is made in its place, its mark being cleared, is repaired
  pub repaired : {xs ys : List ℕ} (gone : ℕ → Bool) → gone b ≡ false → ((a : ℕ) → (a ≡ b → ⊥) → gone a ≡ lost a) → Made coef len b xs ys
      → Repaired c lost (stripe len lost xs) b (stripe len gone ys)
  repaired {xs} {ys} gone m o M =
      record {
        block = record { coef = vec coef; plan = P.plan; sum = λ x l. M.block x (omega (arith, e)) ∙ plan_sum xs x };
        mark = m;
        marks = o;
        bytes = λ a x h n l. at a x n (omega (arith, e)) (dec_lt a b);
      }
    where
      at : (a x : ℕ) → (a ≡ b → ⊥) → x < len → Dec (a < b) → byte_of len ys a x ≡ byte_of len xs a x
      at a x n l (yes h) = M.before (a * len + x) (omega (arith, under len a b h))
      at a x n l (no h) = M.after (a * len + x) (omega (arith, under len b a (omega arith)))

-- a plan asks for blocks of the stripe
pub plan_makeable : {coef xs : List ℕ} {len b : ℕ} (c : Code) (lost : ℕ → Bool) → b < c.n → Planned c lost b coef
    → len ≤ 1024 → length xs ≡ c.n * len → Makeable xs coef len b
plan_makeable {coef} {xs} {len} {b} c lost l P k w =
    record { sources = sources c.n P.past (omega arith); room = omega (arith, under len b c.n l); short = k }

-- ---- bytes that are never read

-- stripes with the same data are encoded alike
pub encoded_alike : {rows xs xs' ys ys' : List ℕ} {k n len : ℕ} → Encodable rows xs k n len
    → ((p : ℕ) → p < k * len → get_or xs' p 0 ≡ get_or xs p 0) → EncodedList rows len k n xs ys → EncodedList rows len k n xs' ys'
    → (b x : ℕ) → b < n → x < len → byte_of len ys' b x ≡ byte_of len ys b x
encoded_alike {rows} {xs} {xs'} {ys} {ys'} {k} {n} {len} E same D H b x h l = at (dec_lt b k)
  where
    data_same : (i : ℕ) → i < k → byte_of len xs' i x ≡ byte_of len xs i x
    data_same i j = same (i * len + x) (omega (arith, under len i k j))

    read : (i : ℕ) → k ≤ b → i < 32 → (row_of rows b i ≡ 0 → ⊥) → Dec (i < k) → byte_of len xs' i x ≡ byte_of len xs i x
    read i g j z (yes m) = data_same i m
    read i g j z (no m) = absurd (z (E.zero b i g h (omega arith) j))

    at : Dec (b < k) → byte_of len ys' b x ≡ byte_of len ys b x
    at (yes j) =
        let m : b * len + x < k * len = omega (arith, under len b k j) in
        H.kept (b * len + x) m ∙ data_same b j ∙ sym (D.kept (b * len + x) m)
    at (no j) =
        let g : k ≤ b = omega arith in
        H.made b x g h l
        ∙ comb_agree 32 (row_of rows b) (byte_of len xs') (byte_of len xs) x (λ i m z. read i g m z (dec_lt i k))
        ∙ sym (D.made b x g h l)
