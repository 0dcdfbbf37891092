-- Proved: the needs that a call asks are the rows of the table. A need is unmet just where its row applies, and the first unmet need gives the number that
-- the rows give, and no other.
use mathlib.Core.Path.{◌≡◌, refl, sym, ap, ◌∙◌, subst}
use mathlib.Core.Bool.{true, false, Bool-discrete}
use mathlib.Core.List.{List, [], ◌∷◌, ◌++◌}
use mathlib.Core.Logic.{◌⊎◌, inl, inr}
use Prim.Native.Nat.{ℕ, zero, suc, ◌+◌, ◌-◌, ◌*◌, ◌^◌, ◌<◌, ◌≤◌}
use native.Mathlib.Omega.{arith}
use native.Mathlib.Decide.{dec_lt, dec_le}
use lib.ListN.{length}
use lib.Pow.{pow-lt}
use Rattle.std.proofs.lemmas.Bool.{true_from_ne_false, false_from_ne_true}
use borrow.Author.Tests.{lt-ltb}
use Rattle.groups.specs.declared.Layout.{Layout}
use Rattle.given.specs.Given.{Given}
use Rattle.marks.specs.Marks.{marked, none_from}
use Rattle.marks.proofs.Bits.{none_from_lem}
use Rattle.rows.specs.Rows.{blocks}
use Rattle.calls.specs.Code.{HasPlan}
use Rattle.calls.specs.Calls.{Call, Refusal, by, Answer, done, refused, Need, ◌unless◌, First, each, needs, encode, lose, repair, rebuild, correct, fetch}
use Rattle.calls.proofs.Needs.{first_exists, decidable_each, each_done, each_refused}
use Rattle.calls.proofs.Plans.{has_plan_dec}
use Rattle.calls.proofs.Answers.{rebuild_done, rebuild_refused, unmet_lost}
use Rattle.plan.specs.declared.Standing.{Standing}
use Rattle.plan.specs.Codes.{code_of, InRange, front}
use Rattle.plan.proofs.Codes.{code_proper}
use Rattle.plan.proofs.Verdicts.{number_of}
use Rattle.price.specs.declared.Limits.{Limits}
use Rattle.price.specs.Sheet as Sheet
use Rattle.price.specs.Sheet.{Numbers, alone}
use Rattle.shape.specs.Shapes.{Sized}
use Rattle.demands.specs.Table.{Row, Gives, Answered, no_6, no_7, no_7_alone, no_8, no_9, no_10, no_11, no_12, no_13, no_14, no_14_any, no_15, no_16, encode_asks, lose_asks, plan_asks, repair_asks, rebuild_asks, correct_asks, fetch_asks, price_asks}

-- ---- needs and rows

-- the row applies just where the need is unmet, and gives its number
record As (n : Need) (r : Row) : Type 0 where
  same : number_of (refused n.refusal) ≡ r.no
  against : r.when → n.met → ⊥
  unmet : (n.met → ⊥) → r.when

-- where the first unmet need of ns gives an answer, the rows rs give its number
pub record Agree (ns : List Need) (rs : List Row) : Type 0 where
  gives : (a : Answer) → First ns a → Gives rs (number_of a)

none_asked : Agree [] []
none_asked = record { gives = λ a e. ap number_of e }

-- a need and its row, those after them being asked where it is met
asked : {n : Need} {r : Row} {ns : List Need} {rs : List Row} → As n r → (n.met → Agree ns rs) → Agree (n ∷ ns) (r ∷ rs)
asked {n} {r} {ns} {rs} m h = record { gives = at }
  where
    at : (a : Answer) → First (n ∷ ns) a → Gives (r ∷ rs) (number_of a)
    at a (inl x) = inl (m.unmet x.0, ap number_of x.1 ∙ m.same)
    at a (inr x) = inr (λ w. m.against w x.0, (h x.0).gives a x.1)

-- rows give one number at most
gives_one : (rs : List Row) {m n : ℕ} → Gives rs m → Gives rs n → m ≡ n
gives_one [] p q = p ∙ sym q
gives_one (r ∷ rs) (inl x) (inl y) = x.1 ∙ sym y.1
gives_one (r ∷ rs) (inl x) (inr y) = absurd (y.0 x.0)
gives_one (r ∷ rs) (inr x) (inl y) = absurd (x.0 y.0)
gives_one (r ∷ rs) (inr x) (inr y) = gives_one rs x.1 y.1

-- so a call's number is the table's, and what a refusal keeps is kept where the number is not 0
pub answered : {ns : List Need} {rs : List Row} {m : ℕ} {kept : Type 0} → Agree ns rs → (a : Answer) → First ns a → number_of a ≡ m
    → ((number_of a ≡ 0 → ⊥) → kept) → Answered rs m kept
answered {rs = rs} h a f e k =
    let g = subst (Gives rs) e (h.gives a f) in
    record { gives = g; only = λ j x. gives_one rs x g; keeps = λ n. k (λ z. n (sym e ∙ z)) }

-- ---- what fails below m fails somewhere

counterexample : {P : ℕ → Type 0} (m : ℕ) → ((j : ℕ) → j < m → Dec (P j)) → (((j : ℕ) → j < m → P j) → ⊥) → (j : ℕ) × (j < m) × (P j → ⊥)
counterexample {P} m d h = let x = first_exists (decidable_each asks m 0 (λ j l. d j (omega arith))) in at x.0 x.1
  where
    asks : ℕ → Need
    asks j = by 0 unless P j

    at : (a : Answer) → First (each asks m 0) a → (j : ℕ) × (j < m) × (P j → ⊥)
    at done v = absurd (h (λ j l. (each_done asks m 0).0 v j (omega arith) (omega arith)))
    at (refused r) v = let x = each_refused asks m 0 r v in (x.0, omega (arith, x.2.below), x.2.unmet)

-- ---- marks

below_power : (m : ℕ) → m < 2 ^ m
below_power zero = omega arith
below_power (suc m) = omega (arith, pow-lt {i = m} {j = suc m} (omega arith), below_power m)

-- a number has no mark from itself on, so a mark at n or above is found by search
mark_above : (m n : ℕ) → (((b : ℕ) → n ≤ b → marked m b ≡ false) → ⊥) → (b : ℕ) × (n ≤ b) × (marked m b ≡ true)
unfolding none_from
mark_above m n h =
    let x = counterexample {P = λ j. marked m (n + j) ≡ false} m (λ j l. Bool-discrete (marked m (n + j)) false) (λ f. h (λ b l. at f b l (dec_lt (b - n) m))) in
    (n + x.0, omega arith, true_from_ne_false _ x.2)
  where
    at : ((j : ℕ) → j < m → marked m (n + j) ≡ false) → (b : ℕ) → n ≤ b → Dec (b - n < m) → marked m b ≡ false
    at f b l (yes k) = let e : n + (b - n) ≡ b = omega arith in rw e at (f (b - n) k)
    at f b l (no k) = (none_from_lem m m).0 (lt-ltb m (2 ^ m) (below_power m)) b (omega arith)

-- ---- each row

as_6 : (l : Layout) → As (by 6 unless Given l) (no_6 l)
as_6 l = record { same = refl; against = λ n g. n g; unmet = λ n. n }

in_range : (L : ℕ) → Dec (InRange L)
in_range L = at (dec_le 1 L) (dec_le L 1024)
  where
    at : Dec (1 ≤ L) → Dec (L ≤ 1024) → Dec (InRange L)
    at (yes p) (yes q) = yes (record { least = p; most = q })
    at (yes p) (no q) = no (λ r. q r.most)
    at (no p) d = no (λ r. p r.least)

as_7 : (l : Layout) (L size : ℕ) → As (by 7 unless Sized l L size) (no_7 l L size)
as_7 l L size =
    record {
      same = refl;
      against = fails;
      unmet = λ n. at n (in_range L);
    }
  where
    fails : (InRange L → ⊥) ⊎ (size ≡ blocks l * L → ⊥) → Sized l L size → ⊥
    fails (inl n) s = n s.range
    fails (inr n) s = n s.whole

    at : (Sized l L size → ⊥) → Dec (InRange L) → (InRange L → ⊥) ⊎ (size ≡ blocks l * L → ⊥)
    at n (yes r) = inr (λ e. n (record { range = r; whole = e }))
    at n (no r) = inl r

as_7_alone : (L : ℕ) → As (by 7 unless InRange L) (no_7_alone L)
as_7_alone L = record { same = refl; against = λ n r. n r; unmet = λ n. n }

as_8 : (l : Layout) (lost : ℕ) → As (by 8 unless ((b : ℕ) → blocks l ≤ b → marked lost b ≡ false)) (no_8 l lost)
as_8 l lost = record { same = refl; against = λ w h. cc (w.2, h w.0 w.1); unmet = mark_above lost (blocks l) }

as_9 : (most b : ℕ) → As (by 9 unless (b < most)) (no_9 most b)
as_9 most b = record { same = refl; against = λ w h. omega arith; unmet = λ n. omega arith }

as_10 : (lost b : ℕ) → As (by 10 unless (marked lost b ≡ true)) (no_10 lost b)
as_10 lost b = record { same = refl; against = λ w h. cc; unmet = false_from_ne_true (marked lost b) }

as_11 : (lost b : ℕ) → As (by 11 unless (marked lost b ≡ false)) (no_11 lost b)
as_11 lost b = record { same = refl; against = λ w h. cc; unmet = true_from_ne_false (marked lost b) }

as_12 : (L off m : ℕ) → As (by 12 unless (off + m ≤ L)) (no_12 L off m)
as_12 L off m = record { same = refl; against = λ w h. omega arith; unmet = λ n. omega arith }

as_13 : (L room : ℕ) → As (by 13 unless (room ≡ L)) (no_13 L room)
as_13 L room = record { same = refl; against = λ n e. n e; unmet = λ n. n }

-- of a lost block
as_14 : (l : Layout) (L lost b : ℕ) → marked lost b ≡ true → As (by 14 unless HasPlan (code_of l L) (marked lost) b) (no_14 l lost b)
as_14 l L lost b o = record { same = refl; against = λ w p. w.1 p; unmet = λ n. (o, n) }

-- of a block that may be lost
as_14_if : (l : Layout) (L lost b : ℕ)
    → As (by 14 unless (marked lost b ≡ true → HasPlan (code_of l L) (marked lost) b)) (no_14 l lost b)
as_14_if l L lost b =
    record {
      same = refl;
      against = λ w h. w.1 (h w.0);
      unmet = λ n. (unmet_lost (marked lost b) n, λ p. n (λ o. p));
    }

as_15 : (limits : Limits) → As (by 15 unless Numbers limits) (no_15 limits)
as_15 limits = record { same = refl; against = λ n h. n h; unmet = λ n. n }

-- of a given layout, where each data block's plan is decided
as_16 : (l : Layout) → Given l → As (by 16 unless ((i : ℕ) → i < l.k → HasPlan (code_of l 1) (alone i) i)) (no_16 l)
as_16 l given =
    let p = code_proper l given 1 in
    record {
      same = refl;
      against = λ w h. w.2 (h w.0 w.1);
      unmet = counterexample l.k (λ i h. has_plan_dec (code_of l 1) p (alone i) i (omega (arith, p.fits)));
    }

-- the one row that a rebuild asks for every lost block
rebuild_after : (l : Layout) (L lost : ℕ) → Agree (needs (code_of l L) (marked lost) rebuild) (no_14_any l lost ∷ [])
rebuild_after l L lost = record { gives = at }
  where
    at : (a : Answer) → First (needs (code_of l L) (marked lost) rebuild) a → Gives (no_14_any l lost ∷ []) (number_of a)
    at done f =
        let h = (rebuild_done (code_of l L) (marked lost)).0 (record { first = f }) in
        inr (λ w. w.2.1 (h w.0 w.1 w.2.0), refl)
    at (refused r) f =
        let x = rebuild_refused (code_of l L) (marked lost) (record { first = f }) in
        let y = x.2 in
        inl ((x.0, y.below, (y.gone, y.none)), ap (λ (r : Refusal). number_of (refused r)) x.1)

-- ---- what each call asks

module _ (l : Layout) (st : Standing) where
  -- 6, 7 and 8, then the others
  front_asked : {P : Type 0} {seven : Row} {ns : List Need} {rs : List Row} → As (by 7 unless P) seven → Agree ns rs
      → Agree (front l st P ++ ns) (no_6 l ∷ seven ∷ no_8 l st.lost ∷ rs)
  front_asked m h = asked (as_6 l) (λ _. asked m (λ _. asked (as_8 l st.lost) (λ _. h)))

  -- what the call q asks after them
  abbrev after : Call → List Need
  after q = needs (code_of l st.len) (marked st.lost) q

  repair_after : (b : ℕ) → Agree (after (repair b)) (no_9 (blocks l) b ∷ no_10 st.lost b ∷ no_14 l st.lost b ∷ [])
  repair_after b =
      asked (as_9 (blocks l) b) (λ _. asked (as_10 st.lost b) (λ o. asked (as_14 l st.len st.lost b o) (λ _. none_asked)))

  pub lose_agrees : (b : ℕ) → Agree (front l st (InRange st.len) ++ after (lose b)) (lose_asks l st b)
  lose_agrees b =
      front_asked (as_7_alone st.len) (asked (as_9 (blocks l) b) (λ _. asked (as_11 st.lost b) (λ _. none_asked)))

  pub plan_agrees : (b : ℕ) → Agree (front l st (InRange st.len) ++ after (repair b)) (plan_asks l st b)
  plan_agrees b = front_asked (as_7_alone st.len) (repair_after b)

  module _ (size : ℕ) where
    pub encode_agrees : Agree ((by 6 unless Given l) ∷ (by 7 unless Sized l st.len size) ∷ after encode) (encode_asks l st size)
    encode_agrees = asked (as_6 l) (λ _. asked (as_7 l st.len size) (λ _. none_asked))

    abbrev lent : Call → List Need
    lent q = front l st (Sized l st.len size) ++ after q

    pub repair_agrees : (b : ℕ) → Agree (lent (repair b)) (repair_asks l st size b)
    repair_agrees b = front_asked (as_7 l st.len size) (repair_after b)

    pub rebuild_agrees : Agree (lent rebuild) (rebuild_asks l st size)
    rebuild_agrees = front_asked (as_7 l st.len size) (rebuild_after l st.len st.lost)

    pub correct_agrees : (i off : ℕ) (d : List ℕ) → Agree (lent (correct i off d)) (correct_asks l st size i off (length d))
    correct_agrees i off d =
        front_asked (as_7 l st.len size)
        (asked (as_9 l.k i) (λ _. asked (as_11 st.lost i) (λ _. asked (as_12 st.len off (length d)) (λ _. none_asked))))

    pub fetch_agrees : (room b : ℕ) → Agree (lent (fetch b room)) (fetch_asks l st size room b)
    fetch_agrees room b =
        front_asked (as_7 l st.len size)
        (asked (as_9 (blocks l) b) (λ _. asked (as_13 st.len room) (λ _. asked (as_14_if l st.len st.lost b) (λ _. none_asked))))

pub price_agrees : (l : Layout) (limits : Limits) → Agree (Sheet.needs l limits) (price_asks l limits)
price_agrees l limits = asked (as_6 l) (λ given. asked (as_15 limits) (λ _. asked (as_16 l given) (λ _. none_asked)))
