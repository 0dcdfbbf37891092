-- Proved: "at most one outcome fits each input" of a call on a stripe, down to the list of bytes and the number of marks; and bytes standing where a lost
-- block was count for nothing.
use mathlib.Core.Path.{◌≡◌, refl, sym, ap, ◌∙◌, subst}
use mathlib.Core.Bool.{Bool, true, false}
use mathlib.Core.List.{List, [], ◌∷◌, ◌++◌}
use mathlib.Core.Logic.{◌⊎◌, inl, inr}
use Prim.Native.Nat.{ℕ, ◌≤◌}
use denote.Ref.{Bor}
use lib.ListN.{length}
use Rattle.std.specs.Prelude.{Result}
use Rattle.groups.specs.declared.Layout.{Layout}
use Rattle.given.specs.Given.{Given}
use Rattle.marks.specs.Marks.{marked}
use Rattle.marks.proofs.Bits.{marked_unique}
use Rattle.rows.specs.Rows.{blocks}
use Rattle.calls.specs.Code.{Code}
use Rattle.calls.specs.Calls as Calls
use Rattle.calls.specs.Calls.{Stripe, stripe, Call, encode, lose, repair, rebuild, correct, fetch, Need, First, ◌unless◌, by, done, refused, needs, Effect, Outcome, Spare, Fetch}
use Rattle.calls.specs.Demands.{Alike, Same}
use Rattle.calls.proofs.Answers.{verdict_unique, verdict_marks}
use Rattle.calls.proofs.Lists.{same_list, untouched_list}
use Rattle.calls.proofs.Outcomes.{outcome_unique, outcome_alike, fetch_alike}
use Rattle.plan.specs.declared.Standing.{Standing}
use Rattle.plan.specs.declared.Refusal.{Refusal}
use Rattle.plan.specs.Codes.{code_of, InRange}
use Rattle.plan.specs.Refusals.{said}
use Rattle.plan.proofs.Codes.{code_proper}
use Rattle.repairs.specs.declared.Unrebuilt.{Unrebuilt}
use Rattle.shape.specs.Shapes.{Sized, stripe_of, after}
use Rattle.stripe.specs.Stripes.{Encodes, Loses, Fetches, PartOf, HandedBack, Views}
use Rattle.correct.specs.Corrects.{Corrects}
use Rattle.repairs.specs.Repairs.{told, RepairsOne, RebuildsAll}
use Rattle.demands.proofs.Answers.{said_unit, stood_one, rebuilt_one}

-- ---- standings

pub standing_one : {st u : Standing} → u.len ≡ st.len → ((b : ℕ) → marked u.lost b ≡ marked st.lost b) → st ≡ u
standing_one {st} {u} e h i = record { len = sym e i; lost = marked_unique st.lost u.lost (λ b. sym (h b)) i }

-- ---- parts

part_of_one : {s r r' : Bor (List ℕ)} {at m : ℕ} → PartOf s at m r → PartOf s at m r' → (r.now ≡ r'.now) × (r.ref_ptr ≡ r'.ref_ptr)
part_of_one p p' = (p.holds ∙ sym p'.holds, p.place ∙ sym p'.place)

module _ (st : Standing) (b : ℕ) (stripe spare r r' : Bor (List ℕ)) where
  part_one : (a : Calls.Answer) → HandedBack st b stripe spare a r → HandedBack st b stripe spare a r' → (r.now ≡ r'.now) × (r.ref_ptr ≡ r'.ref_ptr)
  part_one (refused _) p p' = part_of_one p p'
  part_one done p p' = at (marked st.lost b) refl
    where
      at : (x : Bool) → marked st.lost b ≡ x → (r.now ≡ r'.now) × (r.ref_ptr ≡ r'.ref_ptr)
      at true o = part_of_one (p.lost o) (p'.lost o)
      at false o = part_of_one (p.present o) (p'.present o)

-- ---- 6 and 7 are asked first

-- a refusal leaves the stripe as it was, and the spare
kept : {front : List Need} {c : Code} {s t : Stripe} {q : Call} {a : Calls.Answer} {r : Calls.Refusal} → Outcome front c s q a t → a ≡ refused r → t ≡ s
kept {c = c} {s = s} {t = t} {q = q} O e = subst (λ (a : Calls.Answer). Effect c s q a t) e O.effect

spare_kept : {front : List Need} {c : Code} {s t : Stripe} {b : ℕ} {old new : List ℕ} {a : Calls.Answer} {r : Calls.Refusal}
    → Fetch front c s b old a t new → a ≡ refused r → new ≡ old
spare_kept {c = c} {s = s} {b = b} {old = old} {new = new} F e = subst (λ (a : Calls.Answer). Spare c s b a old new) e F.spare

module _ (l : Layout) (P : Type 0) (rest : List Need) where
  abbrev pub asked : List Need
  asked = (by 6 unless Given l) ∷ (by 7 unless P) ∷ rest

  -- where neither is the answer, both are met
  sound_or_refused : (qs : List Need) (a : Calls.Answer) → First (asked ++ qs) a → (Given l × P) ⊎ ((r : Calls.Refusal) × (a ≡ refused r))
  sound_or_refused qs a (inl x) = inr (by 6, x.1)
  sound_or_refused qs a (inr (g, inl x)) = inr (by 7, x.1)
  sound_or_refused qs a (inr (g, inr (p, x))) = inl (g, p)

  module _ (L : ℕ) where
    abbrev code : Code
    code = code_of l L

    -- so two outcomes agree whether or not the layout is given
    outcomes_same : {s t t' : Stripe} {q : Call} {a a' : Calls.Answer} → Outcome asked code s q a t → Outcome asked code s q a' t'
        → (a ≡ a') × Same code t t'
    outcomes_same {s} {t} {t'} {q} {a} {a'} O O' = at (sound_or_refused (needs code s.lost q) a O.verdict.first)
      where
        e : a ≡ a'
        e = verdict_unique O.verdict O'.verdict

        at : (Given l × P) ⊎ ((r : Calls.Refusal) × (a ≡ refused r)) → (a ≡ a') × Same code t t'
        at (inl x) = outcome_unique code (code_proper l x.0 L) (record { marks = λ b. refl; bytes = λ b y h k. refl }) O O'
        at (inr x) =
            let z : t' ≡ t = kept O' (sym e ∙ x.1) ∙ sym (kept O x.1) in
            (e, record { marks = λ b. ap (λ (u : Stripe). u.lost b) z; bytes = λ b y h k. ap (λ (u : Stripe). u.byte b y) z })

    module _ {s s' : Stripe} (A : Alike code s s') where
      outcomes_alike : {t t' : Stripe} {q : Call} {a a' : Calls.Answer} → (q ≡ encode → ⊥)
          → Outcome asked code s q a t → Outcome asked code s' q a' t' → (a ≡ a') × Alike code t t'
      outcomes_alike {t} {t'} {q} {a} {a'} n O O' = at (sound_or_refused (needs code s.lost q) a O.verdict.first)
        where
          e : a ≡ a'
          e = verdict_unique O.verdict (verdict_marks (λ b. sym (A.marks b)) O'.verdict)

          at : (Given l × P) ⊎ ((r : Calls.Refusal) × (a ≡ refused r)) → (a ≡ a') × Alike code t t'
          at (inl x) = outcome_alike code (code_proper l x.0 L) A (λ q. absurd (n q)) O O'
          at (inr x) = (e, rw (kept O x.1, kept O' (sym e ∙ x.1)) A)

      spares_alike : {t t' : Stripe} {b : ℕ} {old new new' : List ℕ} {a a' : Calls.Answer}
          → Fetch asked code s b old a t new → Fetch asked code s' b old a' t' new' → (a ≡ a') × (new ≡ new')
      spares_alike {t} {t'} {b} {old} {new} {new'} {a} {a'} F F' =
          at (sound_or_refused (needs code s.lost (fetch b (length old))) a F.outcome.verdict.first)
        where
          e : a ≡ a'
          e = verdict_unique F.outcome.verdict (verdict_marks (λ b. sym (A.marks b)) F'.outcome.verdict)

          at : (Given l × P) ⊎ ((r : Calls.Refusal) × (a ≡ refused r)) → (a ≡ a') × (new ≡ new')
          at (inl x) = fetch_alike code (code_proper l x.0 L) A F F'
          at (inr x) = (e, spare_kept F x.1 ∙ sym (spare_kept F' (sym e ∙ x.1)))

-- ---- a call that is lent the standing

-- lent the stripe xs with the standing st, the call q is answered a, and leaves the stripe ys with the standing u. `sized` is what must hold for 7 not to
-- be given
pub record Leaves (l : Layout) (st : Standing) (sized : Type 0) (xs : List ℕ) (rest : List Need) (q : Call) (a : Calls.Answer) (u : Standing) (ys : List ℕ)
    : Type 0 where
  pub outcome : Outcome (asked l sized rest) (code_of l st.len) (stripe_of st xs) q a (stripe_of u ys)
  pub len : u.len ≡ st.len
  pub long : length ys ≡ length xs

module _ {l : Layout} {st : Standing} {sized : Type 0} {xs : List ℕ} {rest : List Need} {q : Call} {a : Calls.Answer} {u : Standing} {ys : List ℕ}
    (h : Leaves l st sized xs rest q a u ys) where
  module _ {xs' : List ℕ} {a' : Calls.Answer} {u' : Standing} {ys' : List ℕ} (h' : Leaves l st sized xs' rest q a' u' ys') where
    one_standing : ((b : ℕ) → marked u'.lost b ≡ marked u.lost b) → u ≡ u'
    one_standing e = standing_one (h'.len ∙ sym h.len) e

    -- of two stripes that are alike: one answer, one standing, and stripes that are alike
    pub leaves_alike : (q ≡ encode → ⊥) → Alike (code_of l st.len) (stripe_of st xs) (stripe_of st xs')
        → (a ≡ a') × (u ≡ u') × Alike (code_of l st.len) (stripe_of u ys) (stripe_of u' ys')
    leaves_alike n A = let x = outcomes_alike l sized rest st.len A n h.outcome h'.outcome in (x.0, one_standing x.1.marks, x.1)

  -- of one stripe: one answer, one standing, and stripes that hold the same
  pub leaves_same : {a' : Calls.Answer} {u' : Standing} {ys' : List ℕ} → Leaves l st sized xs rest q a' u' ys'
      → (a ≡ a') × (u ≡ u') × Same (code_of l st.len) (stripe_of u ys) (stripe_of u' ys')
  leaves_same h' = let x = outcomes_same l sized rest st.len h.outcome h'.outcome in (x.0, one_standing h' x.1.marks, x.1)

  -- a refusal leaves the standing and every byte of the stripe
  pub leaves_kept : {r : Calls.Refusal} → a ≡ refused r → (u ≡ st) × (ys ≡ xs)
  leaves_kept e =
      let t : stripe_of u ys ≡ stripe_of st xs = kept h.outcome e in (
        sym (standing_one h.len (λ b. ap (λ (s : Stripe). s.lost b) t)),
        untouched_list st.len xs ys h.long (rw h.len at t),
      )

-- of one stripe of the right size: one list of bytes
module _ {l : Layout} {st : Standing} {xs : List ℕ} {rest : List Need} {q : Call} where
  pub leaves_unique : {a a' : Calls.Answer} {u u' : Standing} {ys ys' : List ℕ} → Leaves l st (Sized l st.len (length xs)) xs rest q a u ys
      → Leaves l st (Sized l st.len (length xs)) xs rest q a' u' ys' → (a ≡ a') × (u ≡ u') × (ys ≡ ys')
  leaves_unique {a} {a'} {u} {u'} {ys} {ys'} h h' =
      (x.0, x.1, at (sound_or_refused l (Sized l st.len (length xs)) rest (needs (code_of l st.len) (marked st.lost) q) a h.outcome.verdict.first))
    where
      x : (a ≡ a') × (u ≡ u') × Same (code_of l st.len) (stripe_of u ys) (stripe_of u' ys')
      x = leaves_same h h'

      at : (Given l × Sized l st.len (length xs)) ⊎ ((r : Calls.Refusal) × (a ≡ refused r)) → ys ≡ ys'
      at (inl y) =
          let z = y.1 in
          sym (same_list (code_of l st.len) ys ys' z.range.least (h.long ∙ z.whole) (h'.long ∙ z.whole) (rw (h.len, h'.len) at x.2))
      at (inr y) = (leaves_kept h y.1).1 ∙ sym (leaves_kept h' (sym x.0 ∙ y.1)).1

-- ---- the contracts as such calls

-- 8 is asked after them
abbrev pub unmarked : Layout → Standing → List Need
unmarked l st = (by 8 unless ((b : ℕ) → blocks l ≤ b → marked st.lost b ≡ false)) ∷ []

-- a call that is lent the stripe, and, where it asks the marks, 8
abbrev pub Lent : Layout → Standing → List ℕ → List Need → Call → Calls.Answer → Standing → List ℕ → Type 0
Lent l st xs rest q a u ys = Leaves l st (Sized l st.len (length xs)) xs rest q a u ys

module _ {l : Layout} {st : Standing} {xs ys : List ℕ} where
  pub encode_leaves : {r : Result Standing Refusal} → Encodes l st xs ys r → Lent l st xs [] encode (said r) (after st r) ys
  encode_leaves h = record { outcome = h.outcome; len = h.len; long = h.long }

  pub repair_leaves : {b : ℕ} {r : Result Standing Refusal} → RepairsOne l st b xs ys r → Lent l st xs (unmarked l st) (repair b) (said r) (after st r) ys
  repair_leaves h = record { outcome = h.outcome; len = h.len; long = h.long }

  pub rebuild_leaves : {r : Result Standing Unrebuilt} → RebuildsAll l st xs ys r → Lent l st xs (unmarked l st) rebuild (told r) (after st r) ys
  rebuild_leaves h = record { outcome = h.outcome; len = h.len; long = h.long }

  pub correct_leaves : {i off : ℕ} {d : List ℕ} {r : Result (Unit {0}) Refusal} → Corrects l st i off d xs ys r
      → Lent l st xs (unmarked l st) (correct i off d) (said r) st ys
  correct_leaves h = record { outcome = h.outcome; len = refl; long = h.long }

-- a loss is not lent the stripe: xs may be any
pub lose_leaves : {l : Layout} {st : Standing} {b : ℕ} {r : Result Standing Refusal} (xs : List ℕ) → Loses l st b r
    → Leaves l st (InRange st.len) xs (unmarked l st) (lose b) (said r) (after st r) xs
lose_leaves xs h = record { outcome = h.outcome xs; len = h.len; long = refl }

-- ---- AT MOST ONE OUTCOME

module _ {l : Layout} {st : Standing} where
  module _ {xs ys ys' : List ℕ} where
    -- an encoding: every byte of the stripe, the standing and the answer
    pub encodes_unique : {r r' : Result Standing Refusal} → Encodes l st xs ys r → Encodes l st xs ys' r' → (ys ≡ ys') × (r ≡ r')
    encodes_unique h h' = let x = leaves_unique (encode_leaves h) (encode_leaves h') in (x.2, stood_one st _ _ x.0 x.1)

    -- a repair: the same
    pub repairs_unique : {b : ℕ} {r r' : Result Standing Refusal} → RepairsOne l st b xs ys r → RepairsOne l st b xs ys' r' → (ys ≡ ys') × (r ≡ r')
    repairs_unique h h' = let x = leaves_unique (repair_leaves h) (repair_leaves h') in (x.2, stood_one st _ _ x.0 x.1)

    -- a rebuild: the same, and the block that its 14 names
    pub rebuilds_unique : {r r' : Result Standing Unrebuilt} → RebuildsAll l st xs ys r → RebuildsAll l st xs ys' r' → (ys ≡ ys') × (r ≡ r')
    rebuilds_unique h h' = let x = leaves_unique (rebuild_leaves h) (rebuild_leaves h') in (x.2, rebuilt_one st _ _ x.0 x.1)

    -- a correction: every byte of the stripe and the answer
    pub corrects_unique : {i off : ℕ} {d : List ℕ} {r r' : Result (Unit {0}) Refusal} → Corrects l st i off d xs ys r → Corrects l st i off d xs ys' r'
        → (ys ≡ ys') × (r ≡ r')
    corrects_unique h h' = let x = leaves_unique (correct_leaves h) (correct_leaves h') in (x.2, said_unit _ _ x.0)

  -- a loss: the standing and the answer
  pub loses_unique : {b : ℕ} {r r' : Result Standing Refusal} → Loses l st b r → Loses l st b r' → r ≡ r'
  loses_unique h h' = let x = leaves_same (lose_leaves [] h) (lose_leaves [] h') in stood_one st _ _ x.0 x.1

  -- a fetch: every byte of the spare and the answer
  pub fetches_unique : {b : ℕ} {xs old new new' : List ℕ} {r r' : Result (Unit {0}) Refusal} → Fetches l st b xs old new r → Fetches l st b xs old new' r'
      → (new ≡ new') × (r ≡ r')
  fetches_unique {xs = xs} h h' =
      let x = spares_alike l (Sized l st.len (length xs)) (unmarked l st) st.len (record { marks = λ b. refl; bytes = λ b y k o m. refl }) h.fetch h'.fetch in
      (x.1, said_unit _ _ x.0)

  -- a view: what its part holds, and where it stands
  pub views_unique : {b : ℕ} {stripe spare r r' : Bor (List ℕ)} → Views l st b stripe spare r → Views l st b stripe spare r'
      → (r.now ≡ r'.now) × (r.ref_ptr ≡ r'.ref_ptr)
  views_unique {b} {stripe} {spare} {r} {r'} v v' =
      part_one st b stripe spare r r' v.answer v.part
      (subst (λ (a : Calls.Answer). HandedBack st b stripe spare a r') (verdict_unique v'.verdict v.verdict) v'.part)

-- ---- BYTES STANDING WHERE A LOST BLOCK WAS COUNT FOR NOTHING

-- two stripes of one length that differ in bytes of lost blocks alone
module _ {l : Layout} {st : Standing} {xs xs' : List ℕ} (w : length xs' ≡ length xs) (A : Alike (code_of l st.len) (stripe_of st xs) (stripe_of st xs')) where
  module _ {ys ys' : List ℕ} where
    -- a repair gives one answer and one standing, and the same bytes in every block not lost after it
    pub repairs_stale : {b : ℕ} {r r' : Result Standing Refusal} → RepairsOne l st b xs ys r → RepairsOne l st b xs' ys' r'
        → (r ≡ r') × Alike (code_of l st.len) (stripe_of (after st r) ys) (stripe_of (after st r') ys')
    repairs_stale h h' = let x = leaves_alike (repair_leaves h) (rw w at (repair_leaves h')) (λ e. cc) A in (stood_one st _ _ x.0 x.1, x.2)

    -- a rebuild the same
    pub rebuilds_stale : {r r' : Result Standing Unrebuilt} → RebuildsAll l st xs ys r → RebuildsAll l st xs' ys' r'
        → (r ≡ r') × Alike (code_of l st.len) (stripe_of (after st r) ys) (stripe_of (after st r') ys')
    rebuilds_stale h h' = let x = leaves_alike (rebuild_leaves h) (rw w at (rebuild_leaves h')) (λ e. cc) A in (rebuilt_one st _ _ x.0 x.1, x.2)

    -- a correction one answer, and the same bytes in every block not lost
    pub corrects_stale : {i off : ℕ} {d : List ℕ} {r r' : Result (Unit {0}) Refusal} → Corrects l st i off d xs ys r → Corrects l st i off d xs' ys' r'
        → (r ≡ r') × Alike (code_of l st.len) (stripe_of st ys) (stripe_of st ys')
    corrects_stale h h' = let x = leaves_alike (correct_leaves h) (rw w at (correct_leaves h')) (λ e. cc) A in (said_unit _ _ x.0, x.2)

  -- a fetch one answer, and one spare
  pub fetches_stale : {b : ℕ} {old new new' : List ℕ} {r r' : Result (Unit {0}) Refusal} → Fetches l st b xs old new r → Fetches l st b xs' old new' r'
      → (r ≡ r') × (new ≡ new')
  fetches_stale h h' =
      let x = spares_alike l (Sized l st.len (length xs)) (unmarked l st) st.len A h.fetch (rw w at h'.fetch) in
      (said_unit _ _ x.0, x.1)
