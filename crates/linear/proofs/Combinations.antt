-- Proved: the laws of combinations. They are linear in their coefficients; what is a combination of rows stays one under scaled addition, over
-- a larger set, and through rows that are combinations themselves. A row that is a combination of the others adds nothing.
use mathlib.Core.Path.{◌≡◌, refl, sym, ap, ap₂, ◌∙◌}
use mathlib.Core.Bool.{Bool, true, false}
use mathlib.Core.Logic.{◌↔◌}
use Prim.Native.Nat.{ℕ, ◌<◌}
use native.Mathlib.Decide.{dec_lt, ℕ_discrete}
use Rattle.field.specs.Field.{◌⊕◌, mul}
use Rattle.field.proofs.Xor.{⊕_zero_r}
use Rattle.field.proofs.Product.{mul_zero_l, mul_zero_r, mul_add_l, mul_one_l, mul_lt}
use Rattle.field.proofs.Laws.{mul_assoc}
use Rattle.linear.specs.Sums.{put}
use Rattle.linear.specs.Combinations.{comb, Combo}
use Rattle.linear.proofs.Sets.{in_and_out}
use Rattle.linear.proofs.Sums.{sum_cong, sum_zero, sum_⊕, sum_lt, sum_swap, sum_single, sum_scale, sum_scale_r, put_parts, put_same, put_other, put_self}

-- outside a set the coefficient is zero, inside it the factors are the same
pub mul_within : (c x y : ℕ) (b : Bool) → (b ≡ false → c ≡ 0) → (b ≡ true → x ≡ y) → mul c x ≡ mul c y
mul_within c x y true f t = ap (mul c) (t refl)
mul_within c x y false f t = ap (λ (z : ℕ). mul z x) (f refl) ∙ mul_zero_l x ∙ sym (mul_zero_l y) ∙ ap (λ (z : ℕ). mul z y) (sym (f refl))

module _ (n : ℕ) where
  pub comb_cong : {c d : ℕ → ℕ} (R : ℕ → ℕ → ℕ) (i : ℕ) → ((s : ℕ) → s < n → c s ≡ d s) → comb n c R i ≡ comb n d R i
  unfolding comb
  comb_cong R i h = sum_cong n (λ s l. ap (λ (x : ℕ). mul x (R s i)) (h s l))

  pub comb_rows : (c : ℕ → ℕ) (R Q : ℕ → ℕ → ℕ) (i : ℕ) → ((s : ℕ) → s < n → R s i ≡ Q s i) → comb n c R i ≡ comb n c Q i
  unfolding comb
  comb_rows c R Q i h = sum_cong n (λ s l. ap (mul (c s)) (h s l))

  pub comb_zero : (c : ℕ → ℕ) (R : ℕ → ℕ → ℕ) (i : ℕ) → ((s : ℕ) → s < n → c s ≡ 0) → comb n c R i ≡ 0
  unfolding comb
  comb_zero c R i h = sum_zero n _ (λ s l. ap (λ (x : ℕ). mul x (R s i)) (h s l) ∙ mul_zero_l (R s i))

  pub comb_⊕ : (c d : ℕ → ℕ) (R : ℕ → ℕ → ℕ) (i : ℕ) → comb n (λ s. c s ⊕ d s) R i ≡ comb n c R i ⊕ comb n d R i
  unfolding comb
  comb_⊕ c d R i = sum_cong n (λ s l. mul_add_l (c s) (d s) (R s i)) ∙ sum_⊕ n (λ s. mul (c s) (R s i)) (λ s. mul (d s) (R s i))

  pub comb_scale : (a : ℕ) (c : ℕ → ℕ) (R : ℕ → ℕ → ℕ) (i : ℕ) → comb n (λ s. mul a (c s)) R i ≡ mul a (comb n c R i)
  unfolding comb
  comb_scale a c R i = sum_cong n (λ s l. mul_assoc a (c s) (R s i)) ∙ sym (sum_scale a n (λ s. mul (c s) (R s i)))

  pub comb_lt : (c : ℕ → ℕ) (R : ℕ → ℕ → ℕ) (i : ℕ) → comb n c R i < 256
  unfolding comb
  comb_lt c R i = sum_lt n _ (λ s l. mul_lt (c s) (R s i))

  -- a combination of combinations
  pub comb_comb : (m : ℕ) (c : ℕ → ℕ) (E R : ℕ → ℕ → ℕ) (i : ℕ)
      → comb m c (λ p j. comb n (E p) R j) i ≡ comb n (comb m c E) R i
  unfolding comb
  comb_comb m c E R i =
      sum_cong m (λ p l. sum_scale (c p) n (λ s. mul (E p s) (R s i)))
      ∙ sum_swap m n (λ p s. mul (c p) (mul (E p s) (R s i)))
      ∙ sum_cong n
      (λ s l. sum_cong m (λ p k. sym (mul_assoc (c p) (E p s) (R s i))) ∙ sum_scale_r m (λ p. mul (c p) (E p s)) (R s i))

  -- one row alone, and one row apart
  pub comb_one : (b x : ℕ) (R : ℕ → ℕ → ℕ) (i : ℕ) → b < n → comb n (put b x (λ _. 0)) R i ≡ mul x (R b i)
  unfolding comb
  comb_one b x R i l =
      sum_single n b _ l (λ j k h. ap (λ (y : ℕ). mul y (R j i)) (put_other b x (λ _. 0) j h) ∙ mul_zero_l (R j i))
      ∙ ap (λ (y : ℕ). mul y (R b i)) (put_same b x (λ _. 0))

  pub comb_put : (b x : ℕ) (c : ℕ → ℕ) (R : ℕ → ℕ → ℕ) (i : ℕ) → b < n
      → comb n (put b x c) R i ≡ comb n (put b 0 c) R i ⊕ mul x (R b i)
  comb_put b x c R i l =
      comb_cong R i (λ s k. put_parts b x c s)
      ∙ comb_⊕ (put b 0 c) (put b x (λ _. 0)) R i
      ∙ ap (λ (y : ℕ). comb n (put b 0 c) R i ⊕ y) (comb_one b x R i l)

  pub comb_split : (b : ℕ) (c : ℕ → ℕ) (R : ℕ → ℕ → ℕ) (i : ℕ) → b < n
      → comb n c R i ≡ comb n (put b 0 c) R i ⊕ mul (c b) (R b i)
  comb_split b c R i l = comb_cong R i (λ s k. put_self b c s) ∙ comb_put b (c b) c R i l

-- ---- combinations of the rows that a set names

module _ (n w : ℕ) (R : ℕ → ℕ → ℕ) where
  -- a row that the set names
  pub combo_row : {S : ℕ → Bool} (b : ℕ) → b < n → S b ≡ true → ((i : ℕ) → R b i < 256) → Combo n w R S (R b)
  combo_row {S} b l t f =
      record {
        coef = put b 1 (λ _. 0);
        out = λ s k o. put_other b 1 (λ _. 0) s (λ e. in_and_out (ap S e ∙ t) o);
        sum = λ i k. sym (comb_one n b 1 R i l ∙ mul_one_l (R b i) (f i));
      }

  -- a larger set
  pub combo_more : {S T : ℕ → Bool} {v : ℕ → ℕ} → ((s : ℕ) → s < n → T s ≡ false → S s ≡ false) → Combo n w R S v → Combo n w R T v
  combo_more h x = record { coef = x.coef; out = λ s l o. x.out s l (h s l o); sum = x.sum }

  -- the same vector, column by column
  pub combo_cong : {S : ℕ → Bool} {u v : ℕ → ℕ} → ((i : ℕ) → i < w → v i ≡ u i) → Combo n w R S u → Combo n w R S v
  combo_cong h x = record { coef = x.coef; out = x.out; sum = λ i l. h i l ∙ x.sum i l }

  -- transitivity, with the coefficients of the second rows as a matrix
  module _ (m : ℕ) (Q : ℕ → ℕ → ℕ) (T : ℕ → Bool) (S : ℕ → Bool) (D : ℕ → ℕ → ℕ)
      (off : (t : ℕ) → t < m → T t ≡ true → (s : ℕ) → s < n → S s ≡ false → D t s ≡ 0)
      (row : (t : ℕ) → t < m → T t ≡ true → (i : ℕ) → i < w → Q t i ≡ comb n (D t) R i) where
    pub combo_through : {v : ℕ → ℕ} → Combo m w Q T v → Combo n w R S v
    unfolding comb
    combo_through x =
        record {
          coef = comb m x.coef D;
          out = λ s l o. sum_zero m _ (λ t k. mul_within (x.coef t) (D t s) 0 (T t) (x.out t k) (λ e. off t k e s l o) ∙ mul_zero_r (x.coef t));
          sum = λ i l. x.sum i l
              ∙ sum_cong m (λ t k. mul_within (x.coef t) (Q t i) (comb n (D t) R i) (T t) (x.out t k) (λ e. row t k e i l))
              ∙ comb_comb n m x.coef D R i;
        }

  -- a row that is a combination of the others adds nothing
  pub combo_drop : {S T : ℕ → Bool} {v : ℕ → ℕ} (b : ℕ) → b < n → ((s : ℕ) → (s ≡ b → ⊥) → T s ≡ S s)
      → Combo n w R S (R b) → Combo n w R T v → Combo n w R S v
  combo_drop {S} {T} b l same y x =
      record {
        coef = λ s. put b 0 x.coef s ⊕ mul (x.coef b) (y.coef s);
        out = λ s k o. ap₂ ◌⊕◌ (at s k o (ℕ_discrete s b)) (ap (mul (x.coef b)) (y.out s k o) ∙ mul_zero_r (x.coef b)) ∙ ⊕_zero_r 0;
        sum = λ i k. x.sum i k ∙ comb_split n b x.coef R i l
            ∙ ap (λ (z : ℕ). comb n (put b 0 x.coef) R i ⊕ z)
            (ap (mul (x.coef b)) (y.sum i k) ∙ sym (comb_scale n (x.coef b) y.coef R i))
            ∙ sym (comb_⊕ n (put b 0 x.coef) (λ s. mul (x.coef b) (y.coef s)) R i);
      }
    where
      at : (s : ℕ) → s < n → S s ≡ false → Dec (s ≡ b) → put b 0 x.coef s ≡ 0
      at s k o (yes e) = rw e (put_same b 0 x.coef)
      at s k o (no e) = put_other b 0 x.coef s e ∙ x.out s k (same s e ∙ o)

  -- the span is the same after a repair: T is S and a block b whose row is a combination of S
  pub combo_repair : {S T : ℕ → Bool} {v : ℕ → ℕ} (b : ℕ) → b < n → ((s : ℕ) → (s ≡ b → ⊥) → T s ≡ S s) → T b ≡ true
      → Combo n w R S (R b) → Combo n w R T v ↔ Combo n w R S v
  combo_repair {S} {T} b l same is y = (combo_drop b l same y, combo_more grown)
    where
      grown : (s : ℕ) → s < n → T s ≡ false → S s ≡ false
      grown s k o = sym (same s (λ e. in_and_out (ap T e ∙ is) o)) ∙ o

  -- transitivity: each of the second rows is a combination
  pub combo_trans : {v : ℕ → ℕ} (m : ℕ) (Q : ℕ → ℕ → ℕ) (T S : ℕ → Bool)
      → ((t : ℕ) → t < m → T t ≡ true → Combo n w R S (Q t)) → Combo m w Q T v → Combo n w R S v
  combo_trans m Q T S h =
      combo_through m Q T S (λ t. D t (dec_lt t m) (T t) refl)
      (λ t l e. off t l e (dec_lt t m) (T t) refl)
      (λ t l e. row t l e (dec_lt t m) (T t) refl)
    where
      D : (t : ℕ) → Dec (t < m) → (b : Bool) → T t ≡ b → ℕ → ℕ
      D t (yes l) true e = (h t l e).coef
      D t (yes l) false e = λ _. 0
      D t (no l) b e = λ _. 0

      off : (t : ℕ) → t < m → T t ≡ true → (d : Dec (t < m)) (b : Bool) (e : T t ≡ b) (s : ℕ) → s < n → S s ≡ false → D t d b e s ≡ 0
      off t l e (yes k) true f = (h t k f).out
      off t l e (yes k) false f = λ s j o. refl
      off t l e (no k) b f = λ s j o. refl

      row : (t : ℕ) → t < m → T t ≡ true → (d : Dec (t < m)) (b : Bool) (e : T t ≡ b) (i : ℕ) → i < w → Q t i ≡ comb n (D t d b e) R i
      row t l e (yes k) true f = (h t k f).sum
      row t l e (yes k) false f = in_and_out e f
      row t l e (no k) b f = absurd (k l)

  -- coefficients that are bytes serve as well
  unfoldable pub combo_bytes : {S : ℕ → Bool} {v : ℕ → ℕ} → Combo n w R S v → Combo n w R S v
  combo_bytes x =
      record {
        coef = λ s. mul 1 (x.coef s);
        out = λ s l o. ap (mul 1) (x.out s l o) ∙ mul_zero_r 1;
        sum = λ i l. x.sum i l ∙ sym (mul_one_l (comb n x.coef R i) (comb_lt n x.coef R i)) ∙ sym (comb_scale n 1 x.coef R i);
      }
