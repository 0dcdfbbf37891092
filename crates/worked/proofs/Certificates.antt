-- Proved: facts on given rows by one computed test each: a combination by its terms, none by data that tell the target from the rows, and a plan
-- by its terms and, for each survivor in its order, a reason to keep it or to pass it over.
use mathlib.Core.Path.{◌≡◌, refl, sym, ap₂, ◌∙◌}
use mathlib.Core.Bool.{Bool, true, false, cond}
use mathlib.Core.List.{List, [], ◌∷◌}
use Prim.Native.Nat.{ℕ, suc, ◌<◌}
use native.Mathlib.Omega.{arith}
use native.Mathlib.Decide.{ℕ_discrete}
use lib.Dec.{T, eqb, ltb, eqb→eq, ltb→lt}
use Rattle.field.specs.Field.{◌⊕◌, mul}
use Rattle.field.proofs.Table.{both, both_left, both_right, all, below}
use Rattle.field.proofs.Xor.{⊕_zero_r, ⊕_lt}
use Rattle.linear.specs.Sets.{none, insert}
use Rattle.linear.specs.Sums.{put}
use Rattle.linear.specs.Combinations.{comb, Combo}
use Rattle.linear.specs.Greedy.{Kept, begin, keeps, skips, IsPlan}
use Rattle.linear.specs.Blocks.{dot}
use Rattle.linear.specs.Solved.{vec}
use Rattle.linear.proofs.Sums.{put_same, put_other}
use Rattle.linear.proofs.Combinations.{comb_zero, comb_⊕, comb_one}
use Rattle.linear.proofs.Data.{apart_by}
use Rattle.worked.specs.Plans.{Term, coefs}

-- column i of what the terms come to
unfoldable pub term_sum : (ℕ → ℕ → ℕ) → List Term → ℕ → ℕ
term_sum R [] i = 0
term_sum R (t ∷ l) i = mul t.coef (R t.block i) ⊕ term_sum R l i

-- the term's block is one of S below n, and its coefficient a byte
abbrev pub fits : ℕ → (ℕ → Bool) → Term → Bool
fits n S t = both (ltb t.block n) (both (S t.block) (ltb t.coef 256))

abbrev pub fit : ℕ → (ℕ → Bool) → List Term → Bool
fit n S [] = true
fit n S (t ∷ l) = both (fits n S t) (fit n S l)

-- the terms are of S and come to v
abbrev pub makes : (n w : ℕ) → (ℕ → ℕ → ℕ) → (ℕ → Bool) → (ℕ → ℕ) → List Term → Bool
makes n w R S v l = both (fit n S l) (all (λ i. eqb (v i) (term_sum R l i)) w)

-- for the data d the block whose row is v is not zero, and every block of S is
abbrev pub tells : (n w : ℕ) → (ℕ → ℕ → ℕ) → (ℕ → Bool) → (ℕ → ℕ) → List ℕ → Bool
tells n w R S v d = both (ltb 0 (dot w v (vec d))) (all (λ s. eqb (cond (S s) (dot w (R s) (vec d)) 0) 0) n)

module _ (n w : ℕ) (R : ℕ → ℕ → ℕ) (S : ℕ → Bool) where
  coefs_sum : (l : List Term) → T (fit n S l) → (i : ℕ) → comb n (coefs l) R i ≡ term_sum R l i
  unfolding coefs term_sum
  coefs_sum [] o i = comb_zero n (λ s. 0) R i (λ s k. refl)
  coefs_sum (t ∷ l) o i =
      comb_⊕ n (put t.block t.coef (λ _. 0)) (coefs l) R i
      ∙ ap₂ ◌⊕◌
      (comb_one n t.block t.coef R i (ltb→lt t.block n (both_left (ltb t.block n) _ (both_left (fits n S t) (fit n S l) o))))
      (coefs_sum l (both_right (fits n S t) (fit n S l) o) i)

  -- of the block and the coefficient of a term that fits
  fits_second : (t : Term) → T (fits n S t) → T (both (S t.block) (ltb t.coef 256))
  fits_second t o = both_right (ltb t.block n) (both (S t.block) (ltb t.coef 256)) o

  coefs_out : (l : List Term) → T (fit n S l) → (s : ℕ) → S s ≡ false → coefs l s ≡ 0
  unfolding coefs
  coefs_out [] o s q = refl
  coefs_out (t ∷ l) o s q =
      ap₂ ◌⊕◌ (put_other t.block t.coef (λ _. 0) s apart) (coefs_out l (both_right (fits n S t) (fit n S l) o) s q) ∙ ⊕_zero_r 0
    where
      lost : S t.block ≡ false → T (S t.block) → ⊥
      lost e x = rw e at x

      apart : s ≡ t.block → ⊥
      apart e = lost (rw e at q) (both_left (S t.block) (ltb t.coef 256) (fits_second t (both_left (fits n S t) (fit n S l) o)))

  coefs_byte : (l : List Term) → T (fit n S l) → (s : ℕ) → coefs l s < 256
  unfolding coefs
  coefs_byte [] o s = omega arith
  coefs_byte (t ∷ l) o s = ⊕_lt (at (ℕ_discrete s t.block)) (coefs_byte l (both_right (fits n S t) (fit n S l) o) s)
    where
      at : Dec (s ≡ t.block) → put t.block t.coef (λ _. 0) s < 256
      at (yes e) =
          rw (e, put_same t.block t.coef (λ _. 0))
          (ltb→lt t.coef 256 (both_right (S t.block) (ltb t.coef 256) (fits_second t (both_left (fits n S t) (fit n S l) o))))
      at (no e) = rw (put_other t.block t.coef (λ _. 0) s e) (omega arith)

  module _ (v : ℕ → ℕ) (l : List Term) (o : T (makes n w R S v l)) where
    fitting : T (fit n S l)
    fitting = both_left (fit n S l) _ o

    sums : (i : ℕ) → i < w → v i ≡ comb n (coefs l) R i
    sums i k =
        eqb→eq (v i) (term_sum R l i) (below (λ j. eqb (v j) (term_sum R l j)) w (both_right (fit n S l) _ o) i k) ∙ sym (coefs_sum l fitting i)

    -- A COMBINATION BY ITS TERMS
    pub combo_by_terms : Combo n w R S v
    combo_by_terms = record { coef = coefs l; out = λ s k. coefs_out l fitting s; sum = sums }

    -- and the plan, where S is the choice
    pub plan_over : {order : ℕ → ℕ} {m : ℕ} → Kept n w R order m S → IsPlan n w R order m v (coefs l)
    plan_over a = record { kept = S; choice = a; out = λ s k. coefs_out l fitting s; byte = λ s k. coefs_byte l fitting s; sum = sums }

  -- NO COMBINATION, BY DATA
  pub none_by_data : (v : ℕ → ℕ) (d : List ℕ) → T (tells n w R S v d) → Combo n w R S v → ⊥
  none_by_data v d o =
      apart_by w n R (vec d) (λ s l h. at s h (eqb→eq _ 0 (below (λ s. eqb (cond (S s) (dot w (R s) (vec d)) 0) 0) n (both_right (ltb 0 (dot w v (vec d))) _ o) s l)))
      (λ z. omega (arith, ltb→lt 0 (dot w v (vec d)) (both_left (ltb 0 (dot w v (vec d))) _ o)))
    where
      at : (s : ℕ) → S s ≡ true → cond (S s) (dot w (R s) (vec d)) 0 ≡ 0 → dot w (R s) (vec d) ≡ 0
      at s h = rw h (λ x. x)

-- ---- the greedy choice

-- a survivor is kept, as data tell its row from those kept before; or it is passed over, as terms over those make it
pub data Reason : Type 0 where
  kept : List ℕ → Reason
  passed : List Term → Reason

module _ (n w : ℕ) (R : ℕ → ℕ → ℕ) (order : ℕ → ℕ) where
  -- the place after the reasons, from place j on
  abbrev pub place_after : ℕ → List Reason → ℕ
  place_after j [] = j
  place_after j (r ∷ rs) = place_after (suc j) rs

  -- what is kept after them, where S was kept before
  abbrev pub kept_after : ℕ → (ℕ → Bool) → List Reason → ℕ → Bool
  kept_after j S [] = S
  kept_after j S (kept d ∷ rs) = kept_after (suc j) (insert (order j) S) rs
  kept_after j S (passed l ∷ rs) = kept_after (suc j) S rs

  -- the reasons hold
  abbrev pub hold : ℕ → (ℕ → Bool) → List Reason → Bool
  hold j S [] = true
  hold j S (kept d ∷ rs) = both (tells n w R S (R (order j)) d) (hold (suc j) (insert (order j) S) rs)
  hold j S (passed l ∷ rs) = both (makes n w R S (R (order j)) l) (hold (suc j) S rs)

  -- THE CHOICE BY REASONS
  pub kept_by_reasons : (rs : List Reason) {j : ℕ} {S : ℕ → Bool} → Kept n w R order j S → T (hold j S rs)
      → Kept n w R order (place_after j rs) (kept_after j S rs)
  kept_by_reasons [] a o = a
  kept_by_reasons (kept d ∷ rs) {j} {S} a o =
      kept_by_reasons rs (keeps a (none_by_data n w R S (R (order j)) d (both_left (tells n w R S (R (order j)) d) _ o)))
      (both_right (tells n w R S (R (order j)) d) _ o)
  kept_by_reasons (passed l ∷ rs) {j} {S} a o =
      kept_by_reasons rs (skips a (combo_by_terms n w R S (R (order j)) l (both_left (makes n w R S (R (order j)) l) _ o)))
      (both_right (makes n w R S (R (order j)) l) _ o)

  -- the reasons hold of all survivors, and the terms make v of what is kept
  abbrev pub plans : List Reason → (ℕ → ℕ) → List Term → Bool
  plans rs v l = both (hold 0 none rs) (makes n w R (kept_after 0 none rs) v l)

  -- THE PLAN BY ITS TERMS
  pub plan_by_terms : (rs : List Reason) (v : ℕ → ℕ) (l : List Term) → T (plans rs v l) → IsPlan n w R order (place_after 0 rs) v (coefs l)
  plan_by_terms rs v l o =
      plan_over n w R (kept_after 0 none rs) v l (both_right (hold 0 none rs) _ o)
      (kept_by_reasons rs begin (both_left (hold 0 none rs) _ o))
