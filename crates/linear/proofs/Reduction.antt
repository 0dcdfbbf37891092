-- Proved: the elimination decides whether a row is a combination of the rows it has taken in. A vector reduced to zeros has told its
-- combination (soundness); a combination of rows taken in is reduced to zeros, since the slots are triangular (completeness); and a row that is not
-- reduced to zeros can be taken in, there being a slot free.
use mathlib.Core.Path.{◌≡◌, refl, sym, ap, ap₂, ◌∙◌}
use mathlib.Core.Bool.{Bool, true, false}
use mathlib.Core.Logic.{◌↔◌}
use Prim.Native.Nat.{ℕ, zero, suc, ◌+◌, ◌<◌, ◌≤◌}
use native.Mathlib.Omega.{arith}
use native.Mathlib.Decide.{dec_lt, ℕ_discrete}
use Rattle.field.specs.Field.{◌⊕◌, mul, inv}
use Rattle.field.proofs.Xor.{⊕_assoc, ⊕_comm, ⊕_self, ⊕_zero_r, ⊕_zero_l, ⊕_lt, ⊕_equal, ⊕_cancel}
use Rattle.field.proofs.Product.{mul_zero_l, mul_zero_r, mul_one_l, mul_lt}
use Rattle.field.proofs.Laws.{mul_comm, mul_one_r, mul_inv_r, mul_redo, mul_vanish}
use Rattle.linear.specs.Sums.{sum_to, put}
use Rattle.linear.specs.Combinations.{comb, Combo}
use Rattle.linear.specs.Reduction.{red, Triangular, Expressed, Eliminated}
use Rattle.linear.proofs.Pigeon.{pigeon}
use Rattle.linear.proofs.Sets.{in_and_out}
use Rattle.linear.proofs.Sums.{sum_zero, sum_single, put_same, put_other}
use Rattle.linear.proofs.Combinations.{comb_cong, comb_rows, comb_zero, comb_⊕, comb_scale, comb_one, combo_through}
use Rattle.linear.proofs.Independence.{independent_none, independent_more}

-- ---- what a reduction is

module _ (B : ℕ → ℕ → ℕ) (P : ℕ → ℕ) (v : ℕ → ℕ) where
  pub red_parts : (m i : ℕ) → red B P m v i ≡ v i ⊕ comb m (λ p. red B P p v (P p)) B i
  unfolding red comb sum_to
  red_parts zero i = sym (⊕_zero_r (v i))
  red_parts (suc m) i =
      ap (λ (x : ℕ). x ⊕ mul (red B P m v (P m)) (B m i)) (red_parts m i)
      ∙ ⊕_assoc (v i) (sum_to m (λ p. mul (red B P p v (P p)) (B p i))) (mul (red B P m v (P m)) (B m i))

  pub red_byte : ((i : ℕ) → v i < 256) → (m i : ℕ) → red B P m v i < 256
  unfolding red
  red_byte h zero i = h i
  red_byte h (suc m) i = ⊕_lt (red_byte h m i) (mul_lt (red B P m v (P m)) (B m i))

module _ (w : ℕ) (B : ℕ → ℕ → ℕ) (P : ℕ → ℕ) where
  tri_less : (m : ℕ) → Triangular w B P (suc m) → Triangular w B P m
  tri_less m T =
      record {
        byte = T.byte;
        col = λ p l. T.col p (omega arith);
        one = λ p l. T.one p (omega arith);
        low = λ p q l k. T.low p q (omega arith) k;
      }

  -- a reduced vector is zero at each pivot
  pub red_pivot : (v : ℕ → ℕ) → ((i : ℕ) → v i < 256) → (m : ℕ) → Triangular w B P m → (q : ℕ) → q < m → red B P m v (P q) ≡ 0
  unfolding red
  red_pivot v h zero T q l = absurd (omega arith)
  red_pivot v h (suc m) T q l = at (red_pivot v h m (tri_less m T) q) (dec_lt q m)
    where
      r : ℕ → ℕ
      r = red B P m v

      at : (q < m → r (P q) ≡ 0) → Dec (q < m) → r (P q) ⊕ mul (r (P m)) (B m (P q)) ≡ 0
      at ih (yes k) = ap₂ ◌⊕◌ (ih k) (ap (mul (r (P m))) (T.low m q (omega arith) k) ∙ mul_zero_r (r (P m))) ∙ ⊕_zero_r 0
      at ih (no k) =
          let e : q ≡ m = omega arith in
          rw e
          (ap (λ (x : ℕ). r (P m) ⊕ x) (ap (mul (r (P m))) (T.one m (omega arith)) ∙ mul_one_r (r (P m)) (red_byte B P v h m (P m)))
          ∙ ⊕_self (r (P m)))

  -- the slots are independent: what their combination is zero at each pivot for has no coefficient
  pub tri_free : (m : ℕ) → Triangular w B P m → (e : ℕ → ℕ) → ((q : ℕ) → q < m → comb m e B (P q) ≡ 0)
      → (q : ℕ) → q ≤ m → (r : ℕ) → r < q → mul (e r) 1 ≡ 0
  unfolding comb
  tri_free m T e h zero l r k = absurd (omega arith)
  tri_free m T e h (suc q) l r k = at (tri_free m T e h q (omega arith)) (dec_lt r q)
    where
      other : ((p : ℕ) → p < q → mul (e p) 1 ≡ 0) → (j : ℕ) → j < m → (j ≡ q → ⊥) → Dec (j < q) → mul (e j) (B j (P q)) ≡ 0
      other ih j a b (yes d) = mul_vanish (e j) (B j (P q)) (ih j d)
      other ih j a b (no d) = ap (mul (e j)) (T.low j q a (omega arith)) ∙ mul_zero_r (e j)

      single : ((p : ℕ) → p < q → mul (e p) 1 ≡ 0) → comb m e B (P q) ≡ mul (e q) (B q (P q))
      single ih = sum_single m q _ (omega arith) (λ j a b. other ih j a b (dec_lt j q))

      at : ((p : ℕ) → p < q → mul (e p) 1 ≡ 0) → Dec (r < q) → mul (e r) 1 ≡ 0
      at ih (yes a) = ih r a
      at ih (no a) =
          let z : r ≡ q = omega arith in
          rw z (ap (mul (e q)) (sym (T.one q (omega arith))) ∙ sym (single ih) ∙ h q (omega arith))

  pub tri_zero : (m : ℕ) → Triangular w B P m → (e : ℕ → ℕ) → ((q : ℕ) → q < m → comb m e B (P q) ≡ 0) → (i : ℕ) → comb m e B i ≡ 0
  unfolding comb
  tri_zero m T e h i = sum_zero m _ (λ p l. mul_vanish (e p) (B p i) (tri_free m T e h m (omega arith) p l))

  -- where something is left below w, there is room: the pivots and its column are different, and below w
  pub room : (v : ℕ → ℕ) → ((i : ℕ) → v i < 256) → (m : ℕ) → Triangular w B P m → (i : ℕ) → i < w → 0 < red B P m v i → m < w
  room v h m T i l z = pigeon w (suc m) (put m i P) (λ p k. low p k (ℕ_discrete p m)) (λ p q k j. apart p q k j (ℕ_discrete p m))
    where
      low : (p : ℕ) → p < suc m → Dec (p ≡ m) → put m i P p < w
      low p k (yes e) = rw (e, put_same m i P) l
      low p k (no e) = rw (put_other m i P p e) (T.col p (omega arith))

      apart : (p q : ℕ) → p < suc m → q < p → Dec (p ≡ m) → put m i P p ≡ put m i P q → ⊥
      apart p q k j (yes e) f =
          let g : i ≡ P q = sym (put_same m i P) ∙ sym (ap (put m i P) e) ∙ f ∙ put_other m i P q (omega arith) in
          let y : red B P m v i ≡ 0 = ap (red B P m v) g ∙ red_pivot v h m T q (omega arith) in
          omega arith
      apart p q k j (no e) f =
          let g : P p ≡ P q = sym (put_other m i P p e) ∙ f ∙ put_other m i P q (omega arith) in
          let y : ◌≡◌ {A = ℕ} 1 0 = sym (T.one p (omega arith)) ∙ ap (B p) g ∙ T.low p q (omega arith) j in
          omega arith

  -- completeness: a combination of the slots reduces to zero
  pub red_zero : (v : ℕ → ℕ) → ((i : ℕ) → v i < 256) → (m : ℕ) → Triangular w B P m → (d : ℕ → ℕ)
      → ((i : ℕ) → i < w → v i ≡ comb m d B i) → (i : ℕ) → i < w → red B P m v i ≡ 0
  red_zero v h m T d f i l = all i l ∙ tri_zero m T e (λ q k. sym (all (P q) (T.col q k)) ∙ red_pivot v h m T q k) i
    where
      e : ℕ → ℕ
      e p = d p ⊕ red B P p v (P p)

      all : (j : ℕ) → j < w → red B P m v j ≡ comb m e B j
      all j k =
          red_parts B P v m j
          ∙ ap (λ (x : ℕ). x ⊕ comb m (λ p. red B P p v (P p)) B j) (f j k)
          ∙ sym (comb_⊕ m d (λ p. red B P p v (P p)) B j)

-- ---- what a vector's expression says

module _ (n w : ℕ) (R : ℕ → ℕ → ℕ) where
  pub expressed_add : {S : ℕ → Bool} {t v b : ℕ → ℕ} (a : ℕ) → Expressed n w R S t v → Expressed n w R S (λ _. 0) b
      → Expressed n w R S t (λ i. v i ⊕ mul a (b i))
  expressed_add {S} {t} {v} {b} a x y =
      record {
        sum = λ i l.
            ap₂ ◌⊕◌ (x.sum i l)
            (ap (mul a) (y.sum i l ∙ ⊕_zero_l (comb n (λ s. b (w + s)) R i)) ∙ sym (comb_scale n a (λ s. b (w + s)) R i))
            ∙ ⊕_assoc (t i) (comb n (λ s. v (w + s)) R i) (comb n (λ s. mul a (b (w + s))) R i)
            ∙ ap (λ (z : ℕ). t i ⊕ z) (sym (comb_⊕ n (λ s. v (w + s)) (λ s. mul a (b (w + s))) R i));
        out = λ s l o. ap₂ ◌⊕◌ (x.out s l o) (ap (mul a) (y.out s l o) ∙ mul_zero_r a) ∙ ⊕_zero_r 0;
      }

  pub expressed_zero : {S : ℕ → Bool} → Expressed n w R S (λ _. 0) (λ _. 0)
  expressed_zero = record { sum = λ i l. sym (⊕_zero_l _ ∙ comb_zero n (λ _. 0) R i (λ s k. refl)); out = λ s l o. refl }

  pub expressed_cong : {S : ℕ → Bool} {t v u : ℕ → ℕ} → ((i : ℕ) → i < w + n → u i ≡ v i) → Expressed n w R S t v → Expressed n w R S t u
  expressed_cong {S} {t} {v} {u} h x =
      record {
        sum = λ i l. h i (omega arith) ∙ x.sum i l
            ∙ ap (λ (z : ℕ). t i ⊕ z) (comb_cong n R i (λ s k. sym (h (w + s) (omega arith))));
        out = λ s l o. h (w + s) (omega arith) ∙ x.out s l o;
      }

  pub expressed_scale : {S : ℕ → Bool} {v : ℕ → ℕ} (a : ℕ) → Expressed n w R S (λ _. 0) v → Expressed n w R S (λ _. 0) (λ i. mul a (v i))
  expressed_scale {S} {v} a x = expressed_cong (λ i l. sym (⊕_zero_l (mul a (v i)))) (expressed_add a expressed_zero x)

  pub expressed_more : {S T : ℕ → Bool} {t v : ℕ → ℕ} → ((s : ℕ) → s < n → T s ≡ false → S s ≡ false) → Expressed n w R S t v → Expressed n w R T t v
  expressed_more h x = record { sum = x.sum; out = λ s l o. x.out s l (h s l o) }

  -- a reduction keeps what the vector says
  pub red_told : {S : ℕ → Bool} {t v : ℕ → ℕ} (B : ℕ → ℕ → ℕ) (P : ℕ → ℕ) (m : ℕ)
      → ((p : ℕ) → p < m → Expressed n w R S (λ _. 0) (B p)) → Expressed n w R S t v → Expressed n w R S t (red B P m v)
  unfolding red
  red_told B P zero h x = x
  red_told {v = v} B P (suc m) h x =
      expressed_add (red B P m v (P m)) (red_told B P m (λ p l. h p (omega arith)) x) (h m (omega arith))

  -- soundness: where the row part is zero, t is what the expression says
  pub expressed_sum : {S : ℕ → Bool} {t v : ℕ → ℕ} → Expressed n w R S t v → ((i : ℕ) → i < w → v i ≡ 0) → (i : ℕ) → i < w
      → t i ≡ comb n (λ s. v (w + s)) R i
  expressed_sum {S} {t} {v} x z i l = ⊕_equal (t i) (comb n (λ s. v (w + s)) R i) (sym (x.sum i l) ∙ z i l)

  pub expressed_combo : {S : ℕ → Bool} {t v : ℕ → ℕ} → Expressed n w R S t v → ((i : ℕ) → i < w → v i ≡ 0) → Combo n w R S t
  expressed_combo {S} {t} {v} x z =
      record {
        coef = λ s. v (w + s);
        out = x.out;
        sum = expressed_sum x z;
      }

  -- the vector of block b: its row, and the unit of b
  pub expressed_unit : {S : ℕ → Bool} {v : ℕ → ℕ} (b : ℕ) → b < n → S b ≡ true → ((i : ℕ) → R b i < 256)
      → ((i : ℕ) → i < w → v i ≡ R b i) → ((s : ℕ) → s < n → v (w + s) ≡ put b 1 (λ _. 0) s) → Expressed n w R S (λ _. 0) v
  expressed_unit {S} {v} b l t f g h =
      record {
        sum = λ i k. g i k ∙ sym (⊕_zero_l _ ∙ comb_cong n R i h ∙ comb_one n b 1 R i l ∙ mul_one_l (R b i) (f i));
        out = λ s k o. h s k ∙ put_other b 1 (λ _. 0) s (λ e. in_and_out (ap S e ∙ t) o);
      }

  -- the vector of a target: its row, and no block
  pub expressed_target : {S : ℕ → Bool} {t v : ℕ → ℕ} → ((i : ℕ) → i < w → v i ≡ t i) → ((s : ℕ) → s < n → v (w + s) ≡ 0) → Expressed n w R S t v
  expressed_target {S} {t} {v} g h =
      record {
        sum = λ i k. g i k ∙ sym (ap (λ (z : ℕ). t i ⊕ z) (comb_zero n (λ s. v (w + s)) R i h) ∙ ⊕_zero_r (t i));
        out = λ s k o. h s k;
      }

  -- ---- the theorems

  module _ {S : ℕ → Bool} {B : ℕ → ℕ → ℕ} {P : ℕ → ℕ} {m : ℕ} (K : Eliminated n w R S B P m) where
    -- completeness: a combination of kept rows reduces to zero
    pub complete : {t : ℕ → ℕ} (v : ℕ → ℕ) → ((i : ℕ) → v i < 256) → ((i : ℕ) → i < w → v i ≡ t i) → Combo n w R S t
        → (i : ℕ) → i < w → red B P m v i ≡ 0
    complete {t} v h g x =
        red_zero w B P v h m K.triangular y.coef (λ i l. g i l ∙ y.sum i l)
      where
        y : Combo m w B (λ _. true) t
        y = combo_through m w B n R S (λ _. true) K.via (λ s l e p k o. in_and_out refl o) K.spans x

    -- soundness: where a target's row part is reduced to zero, the expression part has its coefficients
    pub answer : {t : ℕ → ℕ} (v : ℕ → ℕ) → ((i : ℕ) → i < w → v i ≡ t i) → ((s : ℕ) → s < n → v (w + s) ≡ 0) → Expressed n w R S t (red B P m v)
    answer v g h = red_told B P m K.told (expressed_target g h)

    pub sound : {t : ℕ → ℕ} (v : ℕ → ℕ) → ((i : ℕ) → i < w → v i ≡ t i) → ((s : ℕ) → s < n → v (w + s) ≡ 0)
        → ((i : ℕ) → i < w → red B P m v i ≡ 0) → Combo n w R S t
    sound v g h z = expressed_combo (answer v g h) z

    -- row part zero just where the target is a combination of the kept rows
    pub decided : {t : ℕ → ℕ} (v : ℕ → ℕ) → ((i : ℕ) → v i < 256) → ((i : ℕ) → i < w → v i ≡ t i) → ((s : ℕ) → s < n → v (w + s) ≡ 0)
        → ((i : ℕ) → i < w → red B P m v i ≡ 0) ↔ Combo n w R S t
    decided v b g h = (sound v g h, complete v b g)

    -- soundness for any vector: its row part is a combination of the kept rows
    pub within : {t : ℕ → ℕ} (v : ℕ → ℕ) → ((i : ℕ) → i < w → v i ≡ t i)
        → ((i : ℕ) → i < w → red B P m v i ≡ 0) → Combo n w R S t
    within {t} v g z =
        combo_through n w R m B (λ _. true) S (λ p s. B p (w + s)) (λ p k e s. (K.told p k).out s)
        (λ p k e i l. (K.told p k).sum i l ∙ ⊕_zero_l (comb n (λ s. B p (w + s)) R i)) x
      where
        x : Combo m w B (λ _. true) t
        x =
            record {
              coef = λ p. red B P p v (P p);
              out = λ p k o. in_and_out refl o;
              sum = λ i l. sym (g i l) ∙ ⊕_equal (v i) (comb m (λ p. red B P p v (P p)) B i) (sym (red_parts B P v m i) ∙ z i l);
            }

    -- ---- block b, whose row is not a combination of the kept ones, is kept in slot m
    module _ (rb : (s i : ℕ) → R s i < 256) (T : ℕ → Bool) (b : ℕ) (l : b < n) (is : T b ≡ true)
        (same : (s : ℕ) → (s ≡ b → ⊥) → T s ≡ S s)
        (v : ℕ → ℕ) (vb : (i : ℕ) → v i < 256) (vr : (i : ℕ) → i < w → v i ≡ R b i)
        (ve : (s : ℕ) → s < n → v (w + s) ≡ put b 1 (λ _. 0) s)
        (i₀ : ℕ) (i₀w : i₀ < w) (some : 0 < red B P m v i₀)
        (C : ℕ → ℕ → ℕ) (Q : ℕ → ℕ) (cb : (p i : ℕ) → C p i < 256)
        (old : (p i : ℕ) → p < m → i < w + n → C p i ≡ B p i) (oldp : (p : ℕ) → p < m → Q p ≡ P p)
        (new : (i : ℕ) → i < w + n → C m i ≡ mul (inv (red B P m v i₀)) (red B P m v i)) (newp : Q m ≡ i₀) where
      u : ℕ → ℕ
      u = red B P m v

      a : ℕ
      a = inv (u i₀)

      ub : (i : ℕ) → u i < 256
      unfolding u
      ub = red_byte B P v vb m

      triangular' : Triangular w C Q (suc m)
      unfolding u a
      triangular' =
          record {
            byte = cb;
            col = λ p k. col p k (dec_lt p m);
            one = λ p k. one p k (dec_lt p m);
            low = λ p q k j. low p q k j (dec_lt p m);
          }
        where
          col : (p : ℕ) → p < suc m → Dec (p < m) → Q p < w
          col p k (yes y) = rw (oldp p y) (K.triangular.col p y)
          col p k (no y) = let e : p ≡ m = omega arith in rw (e, newp) i₀w

          one : (p : ℕ) → p < suc m → Dec (p < m) → C p (Q p) ≡ 1
          one p k (yes y) = rw (oldp p y) (old p (P p) y (omega (arith, K.triangular.col p y)) ∙ K.triangular.one p y)
          one p k (no y) =
              let e : p ≡ m = omega arith in
              rw (e, newp) (new i₀ (omega arith) ∙ mul_comm a (u i₀) ∙ mul_inv_r (u i₀) (ub i₀) some)

          low : (p q : ℕ) → p < suc m → q < p → Dec (p < m) → C p (Q q) ≡ 0
          low p q k j (yes y) = rw (oldp q (omega arith)) (old p (P q) y (omega (arith, K.triangular.col q (omega arith))) ∙ K.triangular.low p q y j)
          low p q k j (no y) =
              let e : p ≡ m = omega arith in
              let h : q < m = omega arith in
              rw (e, oldp q h) (new (P q) (omega (arith, K.triangular.col q h)) ∙ ap (mul a) (red_pivot w B P v vb m K.triangular q h) ∙ mul_zero_r a)

      grown : (s : ℕ) → s < n → T s ≡ false → S s ≡ false
      grown s k o = sym (same s (λ e. in_and_out (ap T e ∙ is) o)) ∙ o

      told' : (p : ℕ) → p < suc m → Expressed n w R T (λ _. 0) (C p)
      told' p k = at (dec_lt p m)
        where
          at : Dec (p < m) → Expressed n w R T (λ _. 0) (C p)
          at (yes y) = expressed_cong (λ i j. old p i y j) (expressed_more grown (K.told p y))
          at (no y) =
              let e : p ≡ m = omega arith in
              rw e
              (expressed_cong new
              (expressed_scale (inv (red B P m v i₀))
              (red_told B P m (λ q j. expressed_more grown (K.told q j)) (expressed_unit b l is (rb b) vr ve))))

      -- a combination of the old slots and the new one
      slots : (x : ℕ) (c : ℕ → ℕ) (i : ℕ) → i < w → comb (suc m) (put m x c) C i ≡ comb m c B i ⊕ mul x (C m i)
      unfolding comb sum_to
      slots x c i k =
          ap₂ ◌⊕◌
          (comb_cong m C i (λ p j. put_other m x c p (omega arith)) ∙ comb_rows m c C B i (λ p j. old p i j (omega arith)))
          (ap (λ (y : ℕ). mul y (C m i)) (put_same m x c))

      steps : ℕ → ℕ
      steps p = red B P p v (P p)

      via' : (s : ℕ) → Dec (s ≡ b) → ℕ → ℕ
      via' s (yes e) = put m (u i₀) steps
      via' s (no e) = put m 0 (K.via s)

      spans' : (s : ℕ) (d : Dec (s ≡ b)) → s < n → T s ≡ true → (i : ℕ) → i < w → R s i ≡ comb (suc m) (via' s d) C i
      unfolding via' u steps
      spans' s (yes e) k t i j =
          rw e
          (sym
          (slots (u i₀) steps i j
          ∙ ap (λ (x : ℕ). comb m steps B i ⊕ x)
          (ap (mul (u i₀)) (new i (omega arith)) ∙ mul_redo (u i₀) (u i) (ub i₀) some (ub i) ∙ red_parts B P v m i
          ∙ ⊕_comm (v i) (comb m steps B i))
          ∙ ⊕_cancel (comb m steps B i) (v i)
          ∙ vr i j))
      spans' s (no e) k t i j =
          K.spans s k (sym (same s e) ∙ t) i j
          ∙ sym (slots 0 (K.via s) i j ∙ ap (λ (x : ℕ). comb m (K.via s) B i ⊕ x) (mul_zero_l (C m i)) ∙ ⊕_zero_r (comb m (K.via s) B i))

      -- the row of b is no combination of the kept rows
      apart : Combo n w R S (R b) → ⊥
      apart x = let z : red B P m v i₀ ≡ 0 = complete v vb vr x i₀ i₀w in omega arith

      pub eliminated_more : Eliminated n w R T C Q (suc m)
      eliminated_more =
          record {
            triangular = triangular';
            told = told';
            via = λ s. via' s (ℕ_discrete s b);
            spans = λ s. spans' s (ℕ_discrete s b);
            independent = independent_more n w R b l (rb b) same apart K.independent;
          }

  -- no block is kept yet
  pub eliminated_none : (S : ℕ → Bool) (B : ℕ → ℕ → ℕ) (P : ℕ → ℕ) → ((p i : ℕ) → B p i < 256) → ((s : ℕ) → s < n → S s ≡ false) → Eliminated n w R S B P 0
  eliminated_none S B P h o =
      record {
        triangular = record { byte = h; col = λ p k. absurd (omega arith); one = λ p k. absurd (omega arith); low = λ p q k. absurd (omega arith) };
        told = λ p k. absurd (omega arith);
        via = λ _ _. 0;
        spans = λ s k t. in_and_out t (o s k);
        independent = independent_none n w R o;
      }
