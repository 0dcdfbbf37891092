-- Proved: a frame may be wider than what stands in it. Where rows and target are zero from column w on, and the survivors are below n, it is the
-- same to count blocks below n and columns below w as to count more of both. So a matrix of any size up to the frame's may be handed to `solve`.
use mathlib.Core.Path.{◌≡◌, refl, sym, ap, ◌∙◌}
use mathlib.Core.Bool.{Bool, true, false}
use mathlib.Core.Logic.{◌↔◌}
use Prim.Native.Nat.{ℕ, ◌<◌, ◌≤◌}
use native.Mathlib.Omega.{arith}
use native.Mathlib.Decide.{dec_lt}
use Rattle.field.specs.Field.{mul}
use Rattle.field.proofs.Product.{mul_zero_l, mul_zero_r}
use Rattle.linear.specs.Combinations.{comb, Combo}
use Rattle.linear.specs.Greedy.{visited, Kept, begin, keeps, skips, IsPlan}
use Rattle.linear.proofs.Sums.{sum_zero, sum_less}
use Rattle.linear.proofs.Combinations.{comb_cong}
use Rattle.linear.proofs.Choice.{kept_in, visited_place}

-- n blocks and w columns in a frame of N blocks and W columns
module _ (n w N W : ℕ) (nN : n ≤ N) (wW : w ≤ W) (R : ℕ → ℕ → ℕ) (narrow : (s i : ℕ) → w ≤ i → R s i ≡ 0) where
  -- coefficients that are zero from n on combine alike
  comb_frame : (c : ℕ → ℕ) → ((s : ℕ) → n ≤ s → s < N → c s ≡ 0) → (i : ℕ) → comb N c R i ≡ comb n c R i
  unfolding comb
  comb_frame c o i = sum_less n N _ nN (λ s l k. ap (λ (x : ℕ). mul x (R s i)) (o s l k) ∙ mul_zero_l (R s i))

  comb_narrow : (c : ℕ → ℕ) (i : ℕ) → w ≤ i → comb N c R i ≡ 0
  unfolding comb
  comb_narrow c i l = sum_zero N _ (λ s k. ap (mul (c s)) (narrow s i l) ∙ mul_zero_r (c s))

  module _ {S : ℕ → Bool} (few : (s : ℕ) → n ≤ s → S s ≡ false) where
    cut : (ℕ → ℕ) → (s : ℕ) → Dec (s < n) → ℕ
    cut c s (yes l) = c s
    cut c s (no l) = 0

    inner : (ℕ → ℕ) → ℕ → ℕ
    inner c s = cut c s (dec_lt s n)

    inner_at : (c : ℕ → ℕ) (s : ℕ) → s < n → inner c s ≡ c s
    unfolding inner cut
    inner_at c s l = at (dec_lt s n)
      where
        at : (d : Dec (s < n)) → cut c s d ≡ c s
        at (yes k) = refl
        at (no k) = absurd (k l)

    inner_past : (c : ℕ → ℕ) (s : ℕ) → n ≤ s → inner c s ≡ 0
    unfolding inner cut
    inner_past c s l = at (dec_lt s n)
      where
        at : (d : Dec (s < n)) → cut c s d ≡ 0
        at (yes k) = absurd (omega arith)
        at (no k) = refl

    widen : {t : ℕ → ℕ} → ((i : ℕ) → w ≤ i → t i ≡ 0) → Combo n w R S t → Combo N W R S t
    widen {t} tz x =
        record {
          coef = inner x.coef;
          out = λ s l o. out s o (dec_lt s n);
          sum = λ i l. at i (dec_lt i w);
        }
      where
        out : (s : ℕ) → S s ≡ false → Dec (s < n) → inner x.coef s ≡ 0
        out s o (yes k) = inner_at x.coef s k ∙ x.out s k o
        out s o (no k) = inner_past x.coef s (omega arith)

        at : (i : ℕ) → Dec (i < w) → t i ≡ comb N (inner x.coef) R i
        at i (yes k) =
            x.sum i k ∙ sym (comb_frame (inner x.coef) (λ s l j. inner_past x.coef s l) i ∙ comb_cong n R i (inner_at x.coef))
        at i (no k) = tz i (omega arith) ∙ sym (comb_narrow (inner x.coef) i (omega arith))

    shrink : {t : ℕ → ℕ} → Combo N W R S t → Combo n w R S t
    shrink x =
        record {
          coef = x.coef;
          out = λ s l. x.out s (omega arith);
          sum = λ i l. x.sum i (omega arith) ∙ comb_frame x.coef (λ s l k. x.out s k (few s l)) i;
        }

    -- combinations are the same in either frame
    pub combo_frame : {t : ℕ → ℕ} → ((i : ℕ) → w ≤ i → t i ≡ 0) → Combo n w R S t ↔ Combo N W R S t
    combo_frame tz = (widen tz, shrink)

  -- ---- the greedy choice and the plan

  module _ (order : ℕ → ℕ) where
    unvisited : {m : ℕ} → ((p : ℕ) → p < m → order p < n) → (s : ℕ) → n ≤ s → visited order m s ≡ false
    unvisited {m} ob s l = at (visited order m s) refl
      where
        at : (t : Bool) → visited order m s ≡ t → visited order m s ≡ false
        at false e = e
        at true e = let x = visited_place order m s e in absurd (omega (arith, ob x.0 x.1, x.2))

    -- what is kept is the same in either frame
    kept_widen : {m : ℕ} {S : ℕ → Bool} → ((p : ℕ) → p < m → order p < n) → Kept n w R order m S → Kept N W R order m S
    kept_widen ob begin = begin
    kept_widen ob (keeps {j} {S} a x) =
        let less : (p : ℕ) → p < j → order p < n = λ p l. ob p (omega arith) in
        keeps (kept_widen less a) (λ y. x (shrink {S = S} (λ s l. kept_in a s (unvisited less s l)) y))
    kept_widen ob (skips {j} {S} a x) =
        let less : (p : ℕ) → p < j → order p < n = λ p l. ob p (omega arith) in
        skips (kept_widen less a) (widen {S = S} (λ s l. kept_in a s (unvisited less s l)) (narrow (order j)) x)

    kept_shrink : {m : ℕ} {S : ℕ → Bool} → ((p : ℕ) → p < m → order p < n) → Kept N W R order m S → Kept n w R order m S
    kept_shrink ob begin = begin
    kept_shrink ob (keeps {j} {S} a x) =
        let less : (p : ℕ) → p < j → order p < n = λ p l. ob p (omega arith) in
        keeps (kept_shrink less a) (λ y. x (widen {S = S} (λ s l. kept_in a s (unvisited less s l)) (narrow (order j)) y))
    kept_shrink ob (skips {j} {S} a x) =
        let less : (p : ℕ) → p < j → order p < n = λ p l. ob p (omega arith) in
        skips (kept_shrink less a) (shrink {S = S} (λ s l. kept_in a s (unvisited less s l)) x)

    -- a plan in the wide frame is one in the narrow frame
    pub plan_shrink : {m : ℕ} {t c : ℕ → ℕ} → ((p : ℕ) → p < m → order p < n) → IsPlan N W R order m t c → IsPlan n w R order m t c
    plan_shrink {m} {t} {c} ob x =
        record {
          kept = x.kept;
          choice = kept_shrink ob x.choice;
          out = λ s l. x.out s (omega arith);
          byte = λ s l. x.byte s (omega arith);
          sum = λ i l. x.sum i (omega arith)
              ∙ comb_frame c (λ s l k. x.out s k (kept_in x.choice s (unvisited ob s l))) i;
        }

    -- and the other way round, where its coefficients are zero from n on
    pub plan_widen : {m : ℕ} {t c : ℕ → ℕ} → ((p : ℕ) → p < m → order p < n) → ((i : ℕ) → w ≤ i → t i ≡ 0) → ((s : ℕ) → n ≤ s → c s ≡ 0)
        → IsPlan n w R order m t c → IsPlan N W R order m t c
    plan_widen {m} {t} {c} ob tz cz x =
        record {
          kept = x.kept;
          choice = kept_widen ob x.choice;
          out = λ s l o. out s o (dec_lt s n);
          byte = λ s l. byte s (dec_lt s n);
          sum = λ i l. at i (dec_lt i w);
        }
      where
        out : (s : ℕ) → x.kept s ≡ false → Dec (s < n) → c s ≡ 0
        out s o (yes k) = x.out s k o
        out s o (no k) = cz s (omega arith)

        byte : (s : ℕ) → Dec (s < n) → c s < 256
        byte s (yes k) = x.byte s k
        byte s (no k) = omega (arith, cz s (omega arith))

        at : (i : ℕ) → Dec (i < w) → t i ≡ comb N c R i
        at i (yes k) = x.sum i k ∙ sym (comb_frame c (λ s l j. cz s l) i)
        at i (no k) = tz i (omega arith) ∙ sym (comb_narrow c i (omega arith))
