-- Proved: there is a greedy choice for every order, found by elimination, and it keeps at most w blocks. So a target that is a combination of the
-- survivors' rows has a plan, and a plan reads at most w blocks.
use mathlib.Core.Path.{◌≡◌, refl, sym, ap, ◌∙◌}
use mathlib.Core.Bool.{Bool, true, false}
use mathlib.Core.Logic.{◌↔◌}
use lib.Dec.{ltb}
use borrow.Author.Tests.{le-ltb}
use Prim.Native.Nat.{ℕ, zero, suc, ◌+◌, ◌-◌, ◌<◌, ◌≤◌}
use native.Mathlib.Omega.{arith}
use native.Mathlib.Decide.{dec_lt, ℕ_discrete}
use Rattle.field.specs.Field.{mul, inv}
use Rattle.field.proofs.Product.{mul_lt}
use Rattle.linear.specs.Sets.{none, insert, count, tally}
use Rattle.linear.specs.Sums.{put, unit}
use Rattle.linear.specs.Combinations.{Combo}
use Rattle.linear.specs.Reduction.{red, Eliminated}
use Rattle.linear.specs.Greedy.{visited, Kept, begin, keeps, skips, IsPlan}
use Rattle.linear.proofs.Pigeon.{pigeon}
use Rattle.linear.proofs.Sets.{insert_same, insert_other, count_none, count_le, count_insert}
use Rattle.linear.proofs.Sums.{put_same, put_other, unit_byte}
use Rattle.linear.proofs.Combinations.{combo_row}
use Rattle.linear.proofs.Reduction.{within, complete, eliminated_more, eliminated_none}
use Rattle.linear.proofs.Choice.{kept_unique, kept_combo, plan_by, plan_combo}

-- ---- a column that is not zero

data Look : ℕ → (ℕ → ℕ) → Type 0 where
  nowhere : {w : ℕ} {u : ℕ → ℕ} → ((i : ℕ) → i < w → u i ≡ 0) → Look w u
  somewhere : {w : ℕ} {u : ℕ → ℕ} (i : ℕ) → i < w → 0 < u i → Look w u

look : (w : ℕ) (u : ℕ → ℕ) → Look w u
look zero u = nowhere {w = zero} {u = u} (λ i l. absurd (omega arith))
look (suc w) u = at (look w u) (ℕ_discrete (u w) 0)
  where
    last : ((i : ℕ) → i < w → u i ≡ 0) → u w ≡ 0 → (i : ℕ) → i < suc w → Dec (i ≡ w) → u i ≡ 0
    last h e i l (yes q) = ap u q ∙ e
    last h e i l (no q) = h i (omega arith)

    at : Look w u → Dec (u w ≡ 0) → Look (suc w) u
    at (nowhere h) (yes e) = nowhere (λ i l. last h e i l (ℕ_discrete i w))
    at (nowhere h) (no e) = somewhere {w = suc w} {u = u} w (omega arith) (omega arith)
    at (somewhere i l p) d = somewhere {w = suc w} {u = u} i (omega arith) p

-- ---- a row and an expression, one after the other

joint : (w : ℕ) (r e : ℕ → ℕ) (i : ℕ) → Dec (i < w) → ℕ
joint w r e i (yes l) = r i
joint w r e i (no l) = e (i - w)

vector : ℕ → (ℕ → ℕ) → (ℕ → ℕ) → ℕ → ℕ
vector w r e i = joint w r e i (dec_lt i w)

module _ (w : ℕ) (r e : ℕ → ℕ) where
  vector_row : (i : ℕ) → i < w → vector w r e i ≡ r i
  unfolding vector joint
  vector_row i l = at (dec_lt i w)
    where
      at : (d : Dec (i < w)) → joint w r e i d ≡ r i
      at (yes k) = refl
      at (no k) = absurd (k l)

  vector_part : (s : ℕ) → vector w r e (w + s) ≡ e s
  unfolding vector joint
  vector_part s = at (dec_lt (w + s) w)
    where
      at : (d : Dec (w + s < w)) → joint w r e (w + s) d ≡ e s
      at (yes k) = absurd (omega arith)
      at (no k) = let q : w + s - w ≡ s = omega arith in ap e q

  vector_byte : ((i : ℕ) → r i < 256) → ((i : ℕ) → e i < 256) → (i : ℕ) → vector w r e i < 256
  unfolding vector joint
  vector_byte rb eb i = at (dec_lt i w)
    where
      at : (d : Dec (i < w)) → joint w r e i d < 256
      at (yes k) = rb i
      at (no k) = eb (i - w)

-- ---- one survivor more

-- the elimination of the rows of S, in as many slots as S has blocks
pub record Ready (n w : ℕ) (R : ℕ → ℕ → ℕ) (S : ℕ → Bool) : Type 0 where
  pub slots : ℕ → ℕ → ℕ
  pub pivots : ℕ → ℕ
  pub used : ℕ
  pub state : Eliminated n w R S slots pivots used
  pub size : count S n ≡ used

module _ (n w : ℕ) (R : ℕ → ℕ → ℕ) (rb : (s i : ℕ) → R s i < 256) where
  -- whether v is a combination of the rows of S; where not, a column that is left of it
  module _ {S : ℕ → Bool} (y : Ready n w R S) where
    decide : (v : ℕ → ℕ) → ((i : ℕ) → v i < 256) → Dec (Combo n w R S v)
    decide v vb = at (look w (red y.slots y.pivots y.used v))
      where
        at : Look w (red y.slots y.pivots y.used v) → Dec (Combo n w R S v)
        at (nowhere h) = yes (within n w R y.state v (λ i l. refl) h)
        at (somewhere i l p) = no (λ x. let z = complete n w R y.state v vb (λ i l. refl) x i l in omega arith)

    pub few : y.used ≤ w
    few = pigeon w y.used y.pivots y.state.triangular.col apart
      where
        apart : (p q : ℕ) → p < y.used → q < p → y.pivots p ≡ y.pivots q → ⊥
        apart p q l k e =
            let z : ◌≡◌ {A = ℕ} 1 0 = sym (y.state.triangular.one p l) ∙ ap (y.slots p) e ∙ y.state.triangular.low p q l k in
            omega arith

    module _ (b : ℕ) (l : b < n) (no' : Combo n w R S (R b) → ⊥) where
      was : S b ≡ false
      was = at (S b) refl
        where
          at : (t : Bool) → S b ≡ t → S b ≡ false
          at true e = absurd (no' (combo_row n w R b l e (rb b)))
          at false e = e

      v : ℕ → ℕ
      v = vector w (R b) (unit b)

      u : ℕ → ℕ
      u = red y.slots y.pivots y.used v

      more : Look w u → Ready n w R (insert b S)
      unfolding v u
      more (nowhere h) = absurd (no' (within n w R y.state v (vector_row w (R b) (unit b)) h))
      more (somewhere i k p) =
          record {
            slots = C;
            pivots = put m i y.pivots;
            used = suc m;
            state = eliminated_more n w R y.state rb (insert b S) b l (insert_same b S) (insert_other b S) v (vector_byte w (R b) (unit b) (rb b) (unit_byte b))
                (vector_row w (R b) (unit b)) (λ s k. vector_part w (R b) (unit b) s) i k p C (put m i y.pivots)
                (λ q j. byte q j (ℕ_discrete q m))
                (λ q j h g. put_other m (x j) (λ s. y.slots s j) q (omega arith)) (λ q h. put_other m i y.pivots q (omega arith))
                (λ j g. put_same m (x j) (λ s. y.slots s j)) (put_same m i y.pivots);
            size = count_insert b S n l was ∙ ap suc y.size;
          }
        where
          m : ℕ
          m = y.used

          x : ℕ → ℕ
          x j = mul (inv (u i)) (u j)

          C : ℕ → ℕ → ℕ
          C q j = put m (x j) (λ s. y.slots s j) q

          byte : (q j : ℕ) → Dec (q ≡ m) → C q j < 256
          byte q j (yes e) = rw (e, put_same m (x j) (λ s. y.slots s j)) (mul_lt (inv (u i)) (u j))
          byte q j (no e) = rw (put_other m (x j) (λ s. y.slots s j) q e) (y.state.triangular.byte q j)

      pub grow : Ready n w R (insert b S)
      grow = more (look w u)

  pub ready_none : Ready n w R (none)
  ready_none =
      record {
        slots = λ _ _. 0;
        pivots = λ _. 0;
        used = 0;
        state = eliminated_none n w R (none) (λ _ _. 0) (λ _. 0) (λ p i. omega arith) (λ s l. refl);
        size = count_none (none) (λ s. refl) n;
      }

  -- ---- every order

  module _ (order : ℕ → ℕ) where
    record Choice (j : ℕ) : Type 0 where
      set : ℕ → Bool
      chosen : Kept n w R order j set
      ready : Ready n w R set

    choose : (j : ℕ) → ((p : ℕ) → p < j → order p < n) → Choice j
    choose zero ob = record { set = none; chosen = begin; ready = ready_none }
    choose (suc j) ob = at (choose j (λ p l. ob p (omega arith)))
      where
        on : (c : Choice j) → Dec (Combo n w R c.set (R (order j))) → Choice (suc j)
        on c (yes x) = record { set = c.set; chosen = skips c.chosen x; ready = c.ready }
        on c (no x) =
            record {
              set = insert (order j) c.set;
              chosen = keeps c.chosen x;
              ready = grow c.ready (order j) (ob j (omega arith)) x;
            }

        at : Choice j → Choice (suc j)
        at c = on c (decide c.ready (R (order j)) (rb (order j)))

    module _ {m : ℕ} (ob : (p : ℕ) → p < m → order p < n) where
      -- there is a choice
      pub kept_exists : (S : ℕ → Bool) × Kept n w R order m S
      kept_exists = let c = choose m ob in (c.set, c.chosen)

      -- of at most w blocks
      pub kept_few : {S : ℕ → Bool} → Kept n w R order m S → count S n ≤ w
      kept_few a =
          let c = choose m ob in
          let e = ap (λ (T : ℕ → Bool). count T n) (kept_unique a c.chosen) in
          omega (arith, e, c.ready.size, few c.ready)

      -- a combination of the survivors' rows has a plan
      pub plan_exists : {t : ℕ → ℕ} → Combo n w R (visited order m) t → (c : ℕ → ℕ) × IsPlan n w R order m t c
      plan_exists x = let c = choose m ob in plan_by n w R rb order c.chosen ((kept_combo n w R rb order c.chosen).0 x)

      -- that reads at most w blocks
      pub plan_few : {t c : ℕ → ℕ} → IsPlan n w R order m t c → tally c n ≤ w
      plan_few {t} {c} x =
          omega (arith, count_le (λ s. ltb 0 (c s)) x.kept n (λ s l o. le-ltb 0 (c s) (omega (arith, x.out s l o))), kept_few x.choice)

      pub plan_iff : {t : ℕ → ℕ} → Combo n w R (visited order m) t ↔ ((c : ℕ → ℕ) × IsPlan n w R order m t c)
      plan_iff = (plan_exists, λ x. plan_combo n w R rb order x.1)
