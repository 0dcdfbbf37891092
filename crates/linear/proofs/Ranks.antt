-- Proved: the number of independent rows. Every set has a basis; independent rows that are combinations of others are at most as many as those,
-- so the number is one; "the number of independent rows among the survivors is the same before and after a repair. A loss lowers it by at most
-- one."
use mathlib.Core.Path.{◌≡◌, refl, sym, ap, ap₂, ◌∙◌}
use mathlib.Core.Bool.{Bool, true, false}
use Prim.Native.Nat.{ℕ, suc, ◌<◌, ◌≤◌}
use native.Mathlib.Omega.{arith}
use native.Mathlib.Decide.{dec_lt, ℕ_discrete}
use Rattle.field.specs.Field.{◌⊕◌, mul}
use Rattle.field.proofs.Xor.{⊕_self}
use Rattle.field.proofs.Product.{mul_zero_r, mul_one_l, mul_lt}
use Rattle.linear.specs.Sets.{insert, count}
use Rattle.linear.specs.Sums.{put}
use Rattle.linear.specs.Combinations.{comb, Combo, Independent}
use Rattle.linear.specs.Greedy.{visited, Kept}
use Rattle.linear.specs.Rank.{Basis, Rank}
use Rattle.linear.proofs.Sets.{in_and_out, insert_same, insert_other, insert_less, count_le, count_insert_le, count_lt, nth, nth_lt, nth_in, nth_count}
use Rattle.linear.proofs.Sums.{sum_cong, sum_zero, put_same, put_other, put_self}
use Rattle.linear.proofs.Combinations.{comb_cong, comb_zero, comb_put, comb_comb, comb_scale, comb_lt, mul_within, combo_more, combo_row, combo_trans}
use Rattle.linear.proofs.Choice.{kept_in, kept_independent, kept_spans, visited_at, visited_place}
use Rattle.linear.proofs.Existence.{kept_exists, kept_few}

-- ---- bases

module _ (n w : ℕ) (R : ℕ → ℕ → ℕ) (rb : (s i : ℕ) → R s i < 256) where
  -- what is kept of the survivors is a basis of theirs
  pub kept_basis : {order : ℕ → ℕ} {m : ℕ} {B : ℕ → Bool} → ((p : ℕ) → p < m → order p < n) → Kept n w R order m B → Basis n w R (visited order m) B
  kept_basis {order} ob a =
      record {
        inside = λ s l. kept_in a s;
        independent = kept_independent n w R rb order ob a;
        spans = kept_spans n w R rb order a;
      }

  -- the order by number visits just the blocks of S
  module _ (S : ℕ → Bool) where
    seen : (s : ℕ) → s < n → S s ≡ true → visited (nth S n) (count S n) s ≡ true
    seen s l e =
        let q : nth S n (count S s) ≡ s = nth_count S n s l e in
        rw q at (visited_at (nth S n) (count S n) (count S s) (count_lt S s n l e))

    unseen : (s : ℕ) → S s ≡ false → visited (nth S n) (count S n) s ≡ false
    unseen s o = at (visited (nth S n) (count S n) s) refl
      where
        at : (t : Bool) → visited (nth S n) (count S n) s ≡ t → visited (nth S n) (count S n) s ≡ false
        at false e = e
        at true e = let x = visited_place (nth S n) (count S n) s e in in_and_out (nth_in S n x.0 x.1) (ap S x.2 ∙ o)

    choice : (B : ℕ → Bool) × Kept n w R (nth S n) (count S n) B
    choice = kept_exists n w R rb (nth S n) (nth_lt S n)

    -- every set has a basis, of at most w rows
    pub basis_exists : (B : ℕ → Bool) × Basis n w R S B × (count B n ≤ w)
    basis_exists =
        let b = kept_basis (nth_lt S n) choice.1 in (
          choice.0,
          record { inside = λ s l o. b.inside s l (unseen s o); independent = b.independent; spans = λ s l e. b.spans s l (seen s l e) },
          kept_few n w R rb (nth S n) (nth_lt S n) choice.1,
        )

  -- an independent row is no combination of others of its set
  pub independent_apart : {S T : ℕ → Bool} (b : ℕ) → b < n → S b ≡ true → T b ≡ false → ((s : ℕ) → s < n → S s ≡ false → T s ≡ false)
      → Independent n w R S → Combo n w R T (R b) → ⊥
  independent_apart {S} {T} b l sb tb sub F x =
      let z : ◌≡◌ {A = ℕ} 1 0 = sym (put_same b 1 e) ∙ F.at (put b 1 e) byte off zero b l in omega arith
    where
      e : ℕ → ℕ
      e s = mul 1 (x.coef s)

      eo : (s : ℕ) → s < n → T s ≡ false → e s ≡ 0
      eo s k o = ap (mul 1) (x.out s k o) ∙ mul_zero_r 1

      byte' : (s : ℕ) → Dec (s ≡ b) → put b 1 e s < 256
      byte' s (yes q) = rw (q, put_same b 1 e) (omega arith)
      byte' s (no q) = rw (put_other b 1 e s q) (mul_lt 1 (x.coef s))

      byte : (s : ℕ) → s < n → put b 1 e s < 256
      byte s k = byte' s (ℕ_discrete s b)

      off : (s : ℕ) → s < n → S s ≡ false → put b 1 e s ≡ 0
      off s k o = put_other b 1 e s (λ q. in_and_out (ap S q ∙ sb) o) ∙ eo s k (sub s k o)

      zero : (i : ℕ) → i < w → comb n (put b 1 e) R i ≡ 0
      zero i k =
          comb_put n b 1 e R i l
          ∙ ap₂ ◌⊕◌
          (comb_cong n R i (λ s h. ap (λ (y : ℕ). put b y e s) (sym (eo b l tb)) ∙ sym (put_self b e s))
          ∙ comb_scale n 1 x.coef R i ∙ mul_one_l _ (comb_lt n x.coef R i) ∙ sym (x.sum i k))
          (mul_one_l (R b i) (rb b i))
          ∙ ⊕_self (R b i)

  -- independent rows are at most as many as columns
  pub independent_few : {S : ℕ → Bool} → Independent n w R S → count S n ≤ w
  independent_few {S} F =
      let b = basis_exists S in
      omega (arith, count_le S b.0 n (λ s l o. at b.0 b.1 s l o (S s) refl), b.2)
    where
      at : (B : ℕ → Bool) → Basis n w R S B → (s : ℕ) → s < n → B s ≡ false → (t : Bool) → S s ≡ t → S s ≡ false
      at B b s l o false e = e
      at B b s l o true e = absurd (independent_apart s l e o (λ t k. b.inside t k) F (b.spans s l e))

-- ---- exchange

module _ (n w : ℕ) (R : ℕ → ℕ → ℕ) {S : ℕ → Bool} (F : Independent n w R S)
    (q : ℕ) (Q : ℕ → ℕ → ℕ) (T : ℕ → Bool) where
  module _ (D : ℕ → ℕ → ℕ) (db : (s t : ℕ) → D s t < 256)
      (off : (s : ℕ) → s < n → S s ≡ true → (t : ℕ) → t < q → T t ≡ false → D s t ≡ 0)
      (row : (s : ℕ) → s < n → S s ≡ true → (i : ℕ) → i < w → R s i ≡ comb q (D s) Q i) where
    -- the coefficients over T alone
    E : ℕ → ℕ → ℕ
    E s k = D s (nth T q k)

    independent_E : Independent n (count T q) E S
    unfolding E comb
    independent_E = record { at = λ e eb eo z. F.at e eb eo (λ i l. all e eo z i l) }
      where
        col : (e : ℕ → ℕ) → ((s : ℕ) → s < n → S s ≡ false → e s ≡ 0) → ((k : ℕ) → k < count T q → comb n e E k ≡ 0)
            → (t : ℕ) → t < q → (b : Bool) → T t ≡ b → comb n e D t ≡ 0
        col e eo z t l false o = sum_zero n _ (λ s k. mul_within (e s) (D s t) 0 (S s) (eo s k) (λ h. off s k h t l o) ∙ mul_zero_r (e s))
        col e eo z t l true o =
            sum_cong n (λ s k. ap (λ (x : ℕ). mul (e s) (D s x)) (sym (nth_count T q t l o)))
            ∙ z (count T t) (count_lt T t q l o)

        all : (e : ℕ → ℕ) → ((s : ℕ) → s < n → S s ≡ false → e s ≡ 0) → ((k : ℕ) → k < count T q → comb n e E k ≡ 0)
            → (i : ℕ) → i < w → comb n e R i ≡ 0
        all e eo z i l =
            sum_cong n (λ s k. mul_within (e s) (R s i) (comb q (D s) Q i) (S s) (eo s k) (λ h. row s k h i l))
            ∙ comb_comb q n e D Q i
            ∙ comb_zero q (comb n e D) Q i (λ t k. col e eo z t k (T t) refl)

    exchange_by : count S n ≤ count T q
    unfolding E
    exchange_by = independent_few n (count T q) E (λ s k. db s (nth T q k)) independent_E

  -- independent rows that are combinations of T are at most as many as T
  pub exchange : ((s : ℕ) → s < n → S s ≡ true → Combo q w Q T (R s)) → count S n ≤ count T q
  exchange h =
      exchange_by (λ s. D s (dec_lt s n) (S s) refl)
      (λ s. byte s (dec_lt s n) (S s) refl)
      (λ s l e. off s l e (dec_lt s n) (S s) refl)
      (λ s l e. row s l e (dec_lt s n) (S s) refl)
    where
      D : (s : ℕ) → Dec (s < n) → (b : Bool) → S s ≡ b → ℕ → ℕ
      D s (yes l) true e = λ t. mul 1 ((h s l e).coef t)
      D s (yes l) false e = λ _. 0
      D s (no l) b e = λ _. 0

      byte : (s : ℕ) (d : Dec (s < n)) (b : Bool) (e : S s ≡ b) (t : ℕ) → D s d b e t < 256
      byte s (yes l) true e t = mul_lt 1 ((h s l e).coef t)
      byte s (yes l) false e t = omega arith
      byte s (no l) b e t = omega arith

      off : (s : ℕ) → s < n → S s ≡ true → (d : Dec (s < n)) (b : Bool) (e : S s ≡ b) (t : ℕ) → t < q → T t ≡ false → D s d b e t ≡ 0
      off s l e (yes k) true f = λ t j o. ap (mul 1) ((h s k f).out t j o) ∙ mul_zero_r 1
      off s l e (yes k) false f = λ t j o. refl
      off s l e (no k) b f = λ t j o. refl

      row : (s : ℕ) → s < n → S s ≡ true → (d : Dec (s < n)) (b : Bool) (e : S s ≡ b) (i : ℕ) → i < w → R s i ≡ comb q (D s d b e) Q i
      row s l e (yes k) true f = λ i j.
          (h s k f).sum i j ∙ sym (comb_scale q 1 (h s k f).coef Q i ∙ mul_one_l _ (comb_lt q (h s k f).coef Q i))
      row s l e (yes k) false f = in_and_out e f
      row s l e (no k) b f = absurd (k l)

-- ---- how many

module _ (n w : ℕ) (R : ℕ → ℕ → ℕ) (rb : (s i : ℕ) → R s i < 256) where
  -- every set has a number of independent rows, at most w
  pub rank_exists : (S : ℕ → Bool) → (r : ℕ) × Rank n w R S r × (r ≤ w)
  rank_exists S =
      let b = basis_exists n w R rb S in
      (count b.0 n, record { basis = b.0; is = b.1; size = refl }, b.2)

  -- of the survivors it is the number of those kept, in whatever order
  pub kept_rank : {order : ℕ → ℕ} {m : ℕ} {B : ℕ → Bool} → ((p : ℕ) → p < m → order p < n) → Kept n w R order m B
      → Rank n w R (visited order m) (count B n)
  kept_rank {B = B} ob a = record { basis = B; is = kept_basis n w R rb ob a; size = refl }

  module _ {S T : ℕ → Bool} {r q : ℕ} (x : Rank n w R S r) (y : Rank n w R T q) where
    within : (s : ℕ) → s < n → x.basis s ≡ true → S s ≡ true
    within s l e = at (S s) refl
      where
        at : (t : Bool) → S s ≡ t → S s ≡ true
        at true o = o
        at false o = in_and_out e (x.is.inside s l o)

    -- where each row of S is a combination of T's rows, S has no more independent rows than T
    pub rank_le : ((s : ℕ) → s < n → S s ≡ true → Combo n w R T (R s)) → r ≤ q
    rank_le h =
        omega (
          arith,
          x.size,
          y.size,
          exchange n w R x.is.independent n R y.basis
              (λ s l e. combo_trans n w R n R T y.basis y.is.spans (h s l (within s l e))),
        )

    -- a loss of block b lowers it by at most one
    pub rank_loss : (b : ℕ) → ((s : ℕ) → s < n → (s ≡ b → ⊥) → S s ≡ true → T s ≡ true) → r ≤ suc q
    rank_loss b h =
        omega (
          arith,
          x.size,
          y.size,
          exchange n w R x.is.independent n R (insert b y.basis) (λ s l e. at s l e (ℕ_discrete s b)),
          count_insert_le b y.basis n,
        )
      where
        at : (s : ℕ) → s < n → x.basis s ≡ true → Dec (s ≡ b) → Combo n w R (insert b y.basis) (R s)
        at s l e (yes o) = combo_row n w R s l (rw o (insert_same b y.basis)) (rb s)
        at s l e (no o) = combo_more n w R (λ t k. insert_less b y.basis t) (y.is.spans s l (h s l o (within s l e)))

  -- there is one such number
  pub rank_unique : {S : ℕ → Bool} {r q : ℕ} → Rank n w R S r → Rank n w R S q → r ≡ q
  rank_unique x y = omega (arith, rank_le x y (λ s l e. combo_row n w R s l e (rb s)), rank_le y x (λ s l e. combo_row n w R s l e (rb s)))

  -- a repair of block b, whose row is a combination of the survivors' rows, leaves it as it was
  pub rank_repair : {S T : ℕ → Bool} {r q : ℕ} (b : ℕ) → Combo n w R S (R b) → ((s : ℕ) → s < n → T s ≡ insert b S s)
      → Rank n w R S r → Rank n w R T q → r ≡ q
  rank_repair {S} {T} b c h x y = omega (arith, rank_le x y (λ s l e. there s l e (ℕ_discrete s b)), rank_le y x (λ s l e. back s l e (ℕ_discrete s b)))
    where
      there : (s : ℕ) → s < n → S s ≡ true → Dec (s ≡ b) → Combo n w R T (R s)
      there s l e (yes o) = combo_row n w R s l (h s l ∙ rw o (insert_same b S)) (rb s)
      there s l e (no o) = combo_row n w R s l (h s l ∙ insert_other b S s o ∙ e) (rb s)

      back : (s : ℕ) → s < n → T s ≡ true → Dec (s ≡ b) → Combo n w R S (R s)
      back s l e (yes o) = rw o c
      back s l e (no o) = combo_row n w R s l (sym (insert_other b S s o) ∙ sym (h s l) ∙ e) (rb s)
