-- Proved: demand 3 is of something. From every sound state every list of losses, repairs and corrections has a run of the store's own calls, every stripe
-- of the right size has an accepted encoding, and an accepted rebuild is itself a run of single repairs.
use mathlib.Core.Path.{◌≡◌, refl, sym, ap, ap₂, ◌∙◌, subst, subst₃}
use mathlib.Core.List.{List, [], ◌∷◌, ◌++◌, map}
use mathlib.Core.Bool.{Bool, true, false, cond}
use mathlib.Core.Logic.{inl, inr}
use Prim.Native.Nat.{ℕ, zero, suc, ◌+◌, ◌*◌, ◌/◌, ◌%◌, ◌<◌}
use native.Mathlib.Omega.{arith}
use native.Mathlib.Nat.{mul-add-div_right, mul-add-mod_self_right, div-eq_of_lt, mod-eq_of_lt}
use lib.ListN.{length, get_or}
use Rattle.std.specs.Prelude.{Result, Ok, Err}
use Rattle.std.specs.List.{range_with_len}
use Rattle.std.proofs.lemmas.List.FromFn.{length-map-range_with_len, get_or-map-range_with_len}
use Rattle.linear.proofs.Sets.{insert_same, insert_other, remove_same, remove_other}
use Rattle.groups.specs.declared.Layout.{Layout}
use Rattle.given.specs.Given.{Given}
use Rattle.marks.specs.Marks.{marked, with_mark, without_mark}
use Rattle.marks.proofs.Bits.{marked_zero, marked_with, marked_without}
use Rattle.rows.specs.Rows.{blocks}
use Rattle.calls.specs.Code.{Code, Proper}
use Rattle.calls.specs.Calls as Calls
use Rattle.calls.specs.Calls.{Stripe, Call, First, needs, encode, lose, repair, correct, done, Verdict, Effect}
use Rattle.calls.specs.Demands.{Turn, calls, rising}
use Rattle.calls.proofs.Needs.{decided}
use Rattle.calls.proofs.Answers.{any_verdict, verdict_unique}
use Rattle.calls.proofs.Existence.{Typed, any_outcome}
use Rattle.calls.proofs.Rebuilds.{alike_self}
use Rattle.pieces.proofs.Blocks.{under}
use Rattle.plan.specs.declared.Standing.{Standing}
use Rattle.plan.specs.declared.Refusal.{Refusal}
use Rattle.plan.specs.declared.Refusal.TheVariants as Why
use Rattle.plan.specs.Codes.{code_of, InRange, front, Sound}
use Rattle.plan.specs.Refusals.{said}
use Rattle.plan.proofs.Codes.{code_proper}
use Rattle.shape.specs.Shapes.{Sized, stripe_of}
use Rattle.store.specs.declared.Said.{Said}
use Rattle.store.specs.Store.{Encode, Lose, Repair, Rebuild, Correct}
use Rattle.demands.specs.Runs.{Between, Runs, numbered, rest, loss, mend, amend, Small, Stands, Come, none, a_loss, a_repair, a_correction, Ran, Possible}
use Rattle.demands.proofs.Demand3.{start, passage, rebuilt, demand_3_rebuild}

-- ---- n blocks of L bytes, one after another

module _ (n L : ℕ) (f : ℕ → ℕ → ℕ) where
  laid_out : List ℕ
  laid_out = map (λ j. f (j / L) (j % L)) (range_with_len 0 (n * L))

  long_laid_out : length laid_out ≡ n * L
  unfolding laid_out
  long_laid_out = length-map-range_with_len (λ j. f (j / L) (j % L)) 0 (n * L)

  byte_laid_out : (b x : ℕ) → b < n → x < L → get_or laid_out (b * L + x) 0 ≡ f b x
  unfolding laid_out
  byte_laid_out b x h k =
      get_or-map-range_with_len (λ j. f (j / L) (j % L)) 0 (n * L) (b * L + x) (b * L + x) 0 (omega (arith, under L b n h)) (omega arith)
      ∙ ap₂ f (mul-add-div_right (omega arith) b x ∙ ap (λ (y : ℕ). b + y) (div-eq_of_lt k) ∙ right b) (mul-add-mod_self_right b L x ∙ mod-eq_of_lt k)
    where
      right : (b : ℕ) → b + 0 ≡ b
      right b = omega arith

-- ---- one call

-- an accepted call has a stripe that it leaves
accepted : (c : Code) → Proper c → (s : Stripe) (q : Call) → Typed q → Verdict [] c s.lost q done → (t : Stripe) × Effect c s q done t
accepted c p s q h v =
    let x = any_outcome c p decided s q h in
    (x.1, subst (λ (a : Calls.Answer). Effect c s q a x.1) (verdict_unique x.2.verdict v) x.2.effect)

-- a stripe of n blocks of L bytes, L in its range, is encoded whatever was marked
any_encode : {l : Layout} (st : Standing) (xs : List ℕ) → Given l → Sized l st.len (length xs)
    → (r : Said) × (u : Standing) × (ys : List ℕ) × Encode l st xs r u ys × (r.number ≡ 0)
any_encode {l} st xs g size =
    let x = accepted (code_of l st.len) (code_proper l g st.len) (stripe_of st xs) encode (record { small = λ i off d e. cc }) (record { first = refl }) in
    let same = byte_laid_out (blocks l) st.len x.0.byte in (
      _,
      record { len = st.len; lost = 0 },
      laid_out (blocks l) st.len x.0.byte,
      record {
        answer = Ok (record { len = st.len; lost = 0 });
        does = record {
          outcome = record {
            verdict = record { first = inr (g, inr (size, refl)) };
            effect = record {
              marks = marked_zero;
              kept = λ i y h k. same i y (omega arith) k ∙ x.1.kept i y h k;
              made = λ b y h j k. same b y j k ∙ x.1.made b y h j k;
            };
          };
          len = refl;
          long = long_laid_out (blocks l) st.len x.0.byte ∙ sym size.whole;
        };
        left = refl;
        said = refl;
      },
      refl,
    )

module _ (l : Layout) (st : Standing) (xs : List ℕ) (s : Sound l st (Sized l st.len (length xs))) where
  abbrev code : Code
  code = code_of l st.len

  proper : Proper code
  proper = code_proper l s.given st.len

  -- what the call q asks after 6, 7 and 8, the first unmet being answered by a
  abbrev Asks : Call → Calls.Answer → Type 0
  Asks q a = First (needs code (marked st.lost) q) a

  -- which answer that is
  any_first : (q : Call) → (a : Calls.Answer) × Asks q a
  any_first q = let x = any_verdict code proper (marked st.lost) decided q in (x.0, x.1.first)

  -- 6, 7 and 8 do not apply
  judged : {q : Call} {a : Calls.Answer} → Asks q a → Verdict (front l st (Sized l st.len (length xs))) code (marked st.lost) q a
  judged f = record { first = inr (s.given, inr (s.size, inr (s.unmarked, f))) }

  any_lose : (b : ℕ) → (r : Said) × (u : Standing) × Lose l st b r u
  any_lose b = let x = any_first (lose b) in at x.1
    where
      judged_alone : {a : Calls.Answer} → Asks (lose b) a → Verdict (front l st (InRange st.len)) code (marked st.lost) (lose b) a
      judged_alone f = record { first = inr (s.given, inr (s.size.range, inr (s.unmarked, f))) }

      refuse : (e : Refusal) → Asks (lose b) (said {A = Standing} (Err e)) → (r : Said) × (u : Standing) × Lose l st b r u
      refuse e f = (
        _,
        st,
        record {
          answer = Err e;
          does = record { outcome = λ zs. record { verdict = judged_alone f; effect = refl }; len = refl };
          left = refl;
          said = refl;
        },
      )

      at : {a : Calls.Answer} → Asks (lose b) a → (r : Said) × (u : Standing) × Lose l st b r u
      at (inl x) = refuse Why.Block (inl (x.0, refl))
      at (inr (h, inl x)) = refuse Why.Lost (inr (h, inl (x.0, refl)))
      at (inr (h, inr (o, e))) = (
        _,
        _,
        record {
          answer = Ok (record { len = st.len; lost = with_mark st.lost b });
          does = record {
            outcome = λ zs. record {
              verdict = judged_alone (inr (h, inr (o, refl)));
              effect = record {
                mark = marked_with st.lost b b ∙ insert_same b (marked st.lost);
                marks = λ a n. marked_with st.lost b a ∙ insert_other b (marked st.lost) a n;
                bytes = λ a y i k. refl;
              };
            };
            len = refl;
          };
          left = refl;
          said = refl;
        },
      )

  any_repair : (b : ℕ) → (r : Said) × (u : Standing) × (ys : List ℕ) × Repair l st xs b r u ys
  any_repair b = let x = any_first (repair b) in at x.1
    where
      refuse : (e : Refusal) → Asks (repair b) (said {A = Standing} (Err e)) → (r : Said) × (u : Standing) × (ys : List ℕ) × Repair l st xs b r u ys
      refuse e f = (
        _,
        st,
        xs,
        record {
          answer = Err e;
          does = record { outcome = record { verdict = judged f; effect = refl }; len = refl; long = refl };
          left = refl;
          said = refl;
        },
      )

      at : {a : Calls.Answer} → Asks (repair b) a → (r : Said) × (u : Standing) × (ys : List ℕ) × Repair l st xs b r u ys
      at (inl x) = refuse Why.Block (inl (x.0, refl))
      at (inr (h, inl x)) = refuse Why.Present (inr (h, inl (x.0, refl)))
      at (inr (h, inr (o, inl x))) = refuse Why.NoPlan (inr (h, inr (o, inl (x.0, refl))))
      at (inr (h, inr (o, inr (w, e)))) =
          let v : Verdict [] code (marked st.lost) (repair b) done = record { first = inr (h, inr (o, inr (w, refl))) } in
          let x = accepted code proper (stripe_of st xs) (repair b) (record { small = λ i off d e. cc }) v in (
            _,
            _,
            laid_out (blocks l) st.len x.0.byte,
            record {
              answer = Ok (record { len = st.len; lost = without_mark st.lost b });
              does = record {
                outcome = record {
                  verdict = judged v.first;
                  effect = record {
                    block = record {
                      coef = x.1.block.coef;
                      plan = x.1.block.plan;
                      sum = λ y k. byte_laid_out (blocks l) st.len x.0.byte b y h k ∙ x.1.block.sum y k;
                    };
                    mark = marked_without st.lost b b ∙ remove_same b (marked st.lost);
                    marks = λ a e. marked_without st.lost b a ∙ remove_other b (marked st.lost) a e;
                    bytes = λ a y i e k. byte_laid_out (blocks l) st.len x.0.byte a y i k ∙ x.1.bytes a y i e k;
                  };
                };
                len = refl;
                long = long_laid_out (blocks l) st.len x.0.byte ∙ sym s.size.whole;
              };
              left = refl;
              said = refl;
            },
          )

  any_correct : (i off : ℕ) (d : List ℕ) → Small d → (r : Result (Unit {0}) Refusal) × (ys : List ℕ) × Correct l st xs i off d r ys
  any_correct i off d small = let x = any_first (correct i off d) in at x.1
    where
      typed : Typed (correct i off d)
      typed = record { small = λ j o f e. let g : d ≡ f = cc in rw (← g) small }

      refuse : (e : Refusal) → Asks (correct i off d) (said {A = Unit {0}} (Err e))
          → (r : Result (Unit {0}) Refusal) × (ys : List ℕ) × Correct l st xs i off d r ys
      refuse e f = (Err e, xs, record { outcome = record { verdict = judged f; effect = refl }; long = refl })

      at : {a : Calls.Answer} → Asks (correct i off d) a → (r : Result (Unit {0}) Refusal) × (ys : List ℕ) × Correct l st xs i off d r ys
      at (inl x) = refuse Why.Block (inl (x.0, refl))
      at (inr (h, inl x)) = refuse Why.Lost (inr (h, inl (x.0, refl)))
      at (inr (h, inr (o, inl x))) = refuse Why.Range (inr (h, inr (o, inl (x.0, refl))))
      at (inr (h, inr (o, inr (w, e)))) =
          let v : Verdict [] code (marked st.lost) (correct i off d) done = record { first = inr (h, inr (o, inr (w, refl))) } in
          let x = accepted code proper (stripe_of st xs) (correct i off d) typed v in
          let same = byte_laid_out (blocks l) st.len x.0.byte in (
            Ok tt,
            laid_out (blocks l) st.len x.0.byte,
            record {
              outcome = record {
                verdict = judged v.first;
                effect = record {
                  small = small;
                  marks = λ b. refl;
                  block = λ y k. same i y (omega arith) k ∙ x.1.block y k;
                  others = λ b y j e k. same b y (omega arith) k ∙ x.1.others b y j e k;
                  redundant = λ b y f j e k. same b y j k ∙ x.1.redundant b y f j e k;
                  missing = λ b y f j e k. same b y j k ∙ x.1.missing b y f j e k;
                };
              };
              long = long_laid_out (blocks l) st.len x.0.byte ∙ sym s.size.whole;
            },
          )

-- ---- lists of calls

-- nothing changed
alone : {l : Layout} (st : Standing) (xs : List ℕ) → Between l st xs xs
alone {l} st xs = record { long = refl; alike = alike_self (code_of l st.len) (stripe_of st xs) }

module _ {l : Layout} {L : ℕ} where
  -- EVERY LIST OF LOSSES, REPAIRS AND CORRECTIONS HAS A RUN from every sound state
  pub any_run : {st : Standing} {xs : List ℕ} {qs : List Call} → Stands l L st xs → Come qs → Ran l L st xs qs
  any_run {st} {xs} s none = record { turns = []; standing = st; stripe = xs; called = refl; stands = s; run = rest (alone st xs) }
  any_run {st} {xs} s (a_loss b c) =
      let x = any_lose l st xs s.sound b in
      let more = any_run {st = x.1} {xs = xs} (passage s (loss (alone st xs) x.2 (rest (alone x.1 xs)))).stands c in
      record {
        turns = record { call = lose b; answer = numbered x.0.number } ∷ more.turns;
        standing = more.standing;
        stripe = more.stripe;
        called = ap (λ (l : List Call). lose b ∷ l) more.called;
        stands = more.stands;
        run = loss (alone st xs) x.2 more.run;
      }
  any_run {st} {xs} s (a_repair b c) =
      let x = any_repair l st xs s.sound b in
      let more = any_run {st = x.1} {xs = x.2} (passage s (mend (alone st xs) x.3 (rest (alone x.1 x.2)))).stands c in
      record {
        turns = record { call = repair b; answer = numbered x.0.number } ∷ more.turns;
        standing = more.standing;
        stripe = more.stripe;
        called = ap (λ (l : List Call). repair b ∷ l) more.called;
        stands = more.stands;
        run = mend (alone st xs) x.3 more.run;
      }
  any_run {st} {xs} s (a_correction i off d small c) =
      let x = any_correct l st xs s.sound i off d small in
      let more = any_run {st = st} {xs = x.1} (passage s (amend (alone st xs) x.2 (rest (alone st x.1)))).stands c in
      record {
        turns = record { call = correct i off d; answer = said x.0 } ∷ more.turns;
        standing = more.standing;
        stripe = more.stripe;
        called = ap (λ (l : List Call). correct i off d ∷ l) more.called;
        stands = more.stands;
        run = amend (alone st xs) x.2 more.run;
      }

-- ---- demand 3 is of something

-- for every layout that a note gives, every stripe of its size and all lists of losses, repairs and corrections
pub demand_3_possible : {l : Layout} {ps qs : List Call} (st : Standing) (xs : List ℕ) → Given l → Sized l st.len (length xs) → Come ps → Come qs
    → Possible l st xs ps qs
demand_3_possible st xs g size c d =
    let e = any_encode st xs g size in
    let before = any_run (start e.3 e.4).stands c in
    record {
      said = e.0;
      standing = e.1;
      stripe = e.2;
      encoded = e.3;
      accepted = e.4;
      before = before;
      list = any_run before.stands d;
    }

-- ---- a rebuild as a run

come_append : {ps qs : List Call} → Come ps → Come qs → Come (ps ++ qs)
come_append none d = d
come_append (a_loss b c) d = a_loss b (come_append c d)
come_append (a_repair b c) d = a_repair b (come_append c d)
come_append (a_correction i off e small c) d = a_correction i off e small (come_append c d)

calls_append : (gs hs : List Turn) → calls (gs ++ hs) ≡ calls gs ++ calls hs
calls_append [] hs = refl
calls_append (g ∷ gs) hs = ap (λ (l : List Call). g.call ∷ l) (calls_append gs hs)

-- the repairs of the lost blocks, in rising order, are such a list
rising_come : (lost : ℕ → Bool) (b : ℕ) → Come (calls (rising lost b))
rising_come lost zero = none
rising_come lost (suc b) = rw (calls_append (rising lost b) (one (lost b))) (come_append (rising_come lost b) (come (lost b)))
  where
    one : Bool → List Turn
    one x = cond x (record { call = repair b; answer = done } ∷ []) []

    come : (x : Bool) → Come (calls (one x))
    come true = a_repair b none
    come false = none

-- "an accepted one ends as single repairs of every lost block, in rising block order, would": they are a run from where it began to where it ended
pub demand_3_rebuild_run : {l : Layout} {st st' : Standing} {xs ys : List ℕ} {r : Said} → Rebuild l st xs r st' ys → r.number ≡ 0
    → Runs l st xs (rising (marked st.lost) (blocks l)) st' ys
demand_3_rebuild_run {l} {st} {st'} {xs} {ys} R z =
    let x = any_run (rebuilt R z).stands (rising_come (marked st.lost) (blocks l)) in
    let e = demand_3_rebuild R z x.run x.called in
    subst₃ (λ (gs : List Turn) (v : Standing) (zs : List ℕ). Runs l st xs gs v zs) e.0 e.1 e.2 x.run
