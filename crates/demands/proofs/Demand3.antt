-- Proved: demand 3 of the store's own calls. In a sound state every run of them is a run of `calls`, and the state stays sound; an accepted encoding leaves
-- a sound state, and an accepted rebuild ends as single repairs do.
use mathlib.Core.Path.{◌≡◌, refl, sym, ap, ap₂, ◌∙◌, subst}
use mathlib.Core.List.{List, ◌∷◌, ◌++◌, Perm}
use mathlib.Core.Bool.{false}
use Prim.Native.Nat.{ℕ, ◌+◌, ◌*◌, ◌<◌, ◌≤◌}
use native.Mathlib.Omega.{arith}
use lib.ListN.{length, get_or}
use Rattle.groups.specs.declared.Layout.{Layout}
use Rattle.marks.specs.Marks.{marked}
use Rattle.rows.specs.Rows.{blocks}
use Rattle.calls.specs.Code.{Code, Proper}
use Rattle.calls.specs.Calls as Calls
use Rattle.calls.specs.Calls.{Stripe, Call, encode, rebuild, done, refused, Encoded, Step}
use Rattle.calls.specs.Demands.{Alike, Same, Comes, a_loss, a_repair, a_correction, Turn, Run, turn, calls, laid_in, Tidy, Settled, Agree, rising}
use Rattle.calls.proofs.Needs.{undone, done_met}
use Rattle.calls.proofs.Answers.{sound_step, done_step, repair_met}
use Rattle.calls.proofs.Outcomes.{outcome_alike}
use Rattle.calls.proofs.Rebuilds.{rebuild_run, repairs_below, alike_self, alike_trans}
use Rattle.calls.proofs.Lists.{same_list}
use Rattle.calls.proofs.Runs as Abstract
use Rattle.calls.proofs.Orders as Orders
use Rattle.calls.proofs.Orders.{turn_path}
use Rattle.plan.specs.declared.Standing.{Standing}
use Rattle.plan.specs.Codes.{code_of, InRange, Sound}
use Rattle.plan.proofs.Codes.{code_proper}
use Rattle.plan.proofs.Fronts.{sound_met}
use Rattle.shape.specs.Shapes.{Sized, stripe_of}
use Rattle.store.specs.declared.Said.{Said}
use Rattle.store.specs.Store.{Encode, Rebuild}
use Rattle.demands.specs.Runs.{Between, Runs, rest, loss, mend, amend, Small, Stands}
use Rattle.demands.proofs.Does.{encode_does, lose_does, repair_does, rebuild_does, does_done, lose_numbered, repair_numbered}
use Rattle.demands.proofs.Outcomes.{Lent, standing_one, unmarked}

-- ---- a sound state

-- a loss is not lent the stripe
range_sound : {l : Layout} {st : Standing} {size : ℕ} → Sound l st (Sized l st.len size) → Sound l st (InRange st.len)
range_sound s = record { given = s.given; size = s.size.range; unmarked = s.unmarked }

-- a loss, a repair or a correction marks no block at n or above
above_same : (c : Code) {s t : Stripe} {q : Call} → Comes q → (a : Calls.Answer) → Step c s q a t → (b : ℕ) → c.n ≤ b → t.lost b ≡ s.lost b
above_same c n (refused r) S b h = ap (λ (u : Stripe). u.lost b) S.effect
above_same c (a_loss d) done S b h = let m = done_met (undone _) S.verdict.first in S.effect.marks b (λ e. omega (arith, m.0))
above_same c (a_repair d) done S b h = let m = repair_met S.verdict in S.effect.marks b (λ e. omega (arith, m.0))
above_same c (a_correction i off d) done S b h = S.effect.marks b

module _ {l : Layout} {L : ℕ} {st : Standing} {xs : List ℕ} (s : Stands l L st xs) where
  -- the state stays sound where lengths are kept and the marks at n and above
  stays : (u : Standing) (ys : List ℕ) → u.len ≡ st.len → length ys ≡ length xs → ((b : ℕ) → blocks l ≤ b → marked u.lost b ≡ marked st.lost b)
      → Stands l L u ys
  stays u ys e w h =
      record {
        len = e ∙ s.len;
        sound = record { given = s.sound.given; size = rw (e, w) s.sound.size; unmarked = λ b k. h b k ∙ s.sound.unmarked b k };
      }

-- ---- runs of the store are runs of `calls`

-- the state after a run, and the run
pub record Passage (l : Layout) (L : ℕ) (st : Standing) (xs : List ℕ) (gs : List Turn) (u : Standing) (zs : List ℕ) : Type 0 where
  pub stands : Stands l L u zs
  pub run : Run (code_of l L) (stripe_of st xs) gs (stripe_of u zs)

module _ {l : Layout} {L : ℕ} where
  between : {st : Standing} {xs ys : List ℕ} → Stands l L st xs → Between l st xs ys
      → Stands l L st ys × Alike (code_of l L) (stripe_of st xs) (stripe_of st ys)
  between {st} {xs} {ys} s B =
      (stays s st ys refl B.long (λ b k. refl), subst (λ (L : ℕ). Alike (code_of l L) (stripe_of st xs) (stripe_of st ys)) s.len B.alike)

  -- one call, and the calls after it
  onward : {st u v : Standing} {xs ys ws zs : List ℕ} {q : Call} {a : Calls.Answer} {gs : List Turn} → Stands l L st xs → Between l st xs ys → Comes q
      → Step (code_of l st.len) (stripe_of st ys) q a (stripe_of u ws) → u.len ≡ st.len → length ws ≡ length ys
      → (Stands l L u ws → Passage l L u ws gs v zs) → Passage l L st xs (record { call = q; answer = a } ∷ gs) v zs
  onward {st} {u} {v} {xs} {ys} {ws} {zs} {q} {a} s B n S e w go =
      let x = between s B in
      let z = go (stays x.0 u ws e w (above_same (code_of l st.len) n a S)) in
      record {
        stands = z.stands;
        run = turn x.1 n (subst (λ (L : ℕ). Step (code_of l L) (stripe_of st ys) q a (stripe_of u ws)) s.len S) z.run;
      }

  -- A RUN OF THE STORE'S CALLS IS A RUN OF `calls`, and leaves a sound state of the same block length
  pub passage : {st u : Standing} {xs zs : List ℕ} {gs : List Turn} → Stands l L st xs → Runs l st xs gs u zs → Passage l L st xs gs u zs
  passage s (rest B) = let x = between s B in record { stands = x.0; run = Run.rest x.1 }
  passage s (loss {ys = ys} {b = b} B h R) =
      let d = (lose_does ys h).leaves in
      let S = (sound_step (sound_met (range_sound s.sound))).0 d.outcome in
      onward s B (a_loss b) (rw (lose_numbered ys h) S) d.len refl (λ t. passage t R)
  passage s (mend {b = b} B h R) =
      let d = (repair_does h).leaves in
      let S = (sound_step (sound_met (between s B).0.sound)).0 d.outcome in
      onward s B (a_repair b) (rw (repair_numbered h) S) d.len d.long (λ t. passage t R)
  passage s (amend {i = i} {off = off} {d = d} B h R) =
      let S = (sound_step (sound_met (between s B).0.sound)).0 h.outcome in
      onward s B (a_correction i off d) S refl h.long (λ t. passage t R)

-- ---- an accepted encoding

-- the state after it, and what it made of the first stripe
pub record Start (l : Layout) (L : ℕ) (st : Standing) (xs : List ℕ) (u : Standing) (ys : List ℕ) : Type 0 where
  pub stands : Stands l L u ys
  pub encoded : Encoded (code_of l L) (stripe_of st xs) (stripe_of u ys)

-- AN ACCEPTED ENCODING LEAVES A SOUND STATE
pub start : {l : Layout} {st u : Standing} {xs ys : List ℕ} {r : Said} → Encode l st xs r u ys → r.number ≡ 0 → Start l st.len st xs u ys
start E z =
    let d = (encode_does E).leaves in
    let O = does_done (encode_does E) z in
    let x = done_met (undone _) O.verdict.first in
    let y = done_met (undone _) x.1 in
    record {
      stands = record {
        len = d.len;
        sound = record { given = x.0; size = rw (d.len, d.long) y.0; unmarked = λ b k. O.effect.marks b };
      };
      encoded = O.effect;
    }

-- ---- DEMAND 3

-- "Start from an encoded stripe, keep its layout and block length, and let losses, repairs and corrections come as they may [hs], survivors and the list of
-- lost blocks being changed by nothing else. After the last loss, take any list of repairs and corrections [gs] that repairs no block twice and corrects no
-- block lost when the list began."
module _ {l : Layout} {st₀ st u v : Standing} {xs₀ xs ys zs : List ℕ} {r : Said} {hs gs : List Turn} (small : Small xs₀) (E : Encode l st₀ xs₀ r st xs)
    (accepted : r.number ≡ 0) (H : Runs l st xs hs u ys) (G : Runs l u ys gs v zs) where
  abbrev code : Code
  code = code_of l st₀.len

  proper : Proper code
  proper = code_proper l (start E accepted).stands.sound.given st₀.len

  before : Passage l st₀.len st xs hs u ys
  before = passage (start E accepted).stands H

  after : Passage l st₀.len u ys gs v zs
  after = passage before.stands G

  -- ".. each call is accepted or refused with the same number, the blocks lost at the end are those lost at its start less those whose repair was accepted,
  -- and every block not lost holds what a fresh encoding of the first data with every accepted difference laid in would give."
  pub demand_3 : Tidy (stripe_of u ys) (calls gs) → Settled (code_of l st₀.len) (stripe_of st₀ xs₀).byte hs (stripe_of u ys) gs (stripe_of v zs)
  demand_3 T = Abstract.demand_3 code proper (λ i x h k. small _) (start E accepted).encoded before.run after.run T

  -- "In whatever order the list runs": the same answers, and the same stripe but for bytes of lost blocks
  pub demand_3_order : Tidy (stripe_of u ys) (calls gs) → {v' : Standing} {zs' : List ℕ} {gs' : List Turn} → Runs l u ys gs' v' zs' → Perm (calls gs) (calls gs')
      → Agree (code_of l st₀.len) gs (stripe_of v zs) gs' (stripe_of v' zs')
  demand_3_order T G' P =
      Orders.demand_3_order code proper (λ i x h k. small _) (start E accepted).encoded before.run after.run (passage before.stands G').run T P

  -- "every block not lost holds what a fresh encoding of the first data with every accepted difference laid in would give": the call that makes one
  pub demand_3_fresh : {st₁ st₂ : Standing} {xs₁ es : List ℕ} {r₁ : Said} → Small xs₁ → Encode l st₁ xs₁ r₁ st₂ es → r₁.number ≡ 0 → st₁.len ≡ st₀.len
      → ((i x : ℕ) → i < l.k → x < st₀.len → get_or xs₁ (i * st₀.len + x) 0 ≡ laid_in (hs ++ gs) (stripe_of st₀ xs₀).byte i x)
      → (b x : ℕ) → b < blocks l → marked v.lost b ≡ false → x < st₀.len → get_or zs (b * st₀.len + x) 0 ≡ get_or es (b * st₀.len + x) 0
  demand_3_fresh {st₁} {st₂} {xs₁} {es} small₁ E₁ accepted₁ e new b x h o k =
      let F = start E₁ accepted₁ in
      let same = after.stands.len in
      let same₂ = F.stands.len ∙ e in
      rw (same, same₂) at
      (Abstract.demand_3_fresh code proper {s' = stripe_of st₁ xs₁} {e' = stripe_of st₂ es} (λ i x h k. small _) (start E accepted).encoded before.run after.run
      (λ i x h k. small₁ _) (λ i y h k. rw e (new i y h k))
      (subst (λ (L : ℕ). Encoded (code_of l L) (stripe_of st₁ xs₁) (stripe_of st₂ es)) e F.encoded) b x h o k)

-- ---- one list of calls on stripes that are alike

module _ {c : Code} where
  alike_sym : {s t : Stripe} → Alike c s t → Alike c t s
  alike_sym A = record { marks = λ b. sym (A.marks b); bytes = λ b x l o k. sym (A.bytes b x l (sym (A.marks b) ∙ o) k) }

  -- stripes that come of two that are alike
  alike_both : {s s' t t' : Stripe} → Alike c s s' → Alike c s t → Alike c s' t' → Alike c t t'
  alike_both A B B' = alike_trans c (alike_sym B) (alike_trans c A B')

not_encode : {q : Call} → Comes q → q ≡ encode → ⊥
not_encode (a_loss b) e = cc
not_encode (a_repair b) e = cc
not_encode (a_correction i off d) e = cc

-- the same answers, and stripes that are alike again
pub run_alike : (c : Code) → Proper c → {s s' t t' : Stripe} {gs gs' : List Turn} → Alike c s s' → Run c s gs t → Run c s' gs' t' → calls gs ≡ calls gs'
    → (gs ≡ gs') × Alike c t t'
run_alike c p A (Run.rest B) (Run.rest B') e = (refl, alike_both A B B')
run_alike c p A (Run.rest B) (turn B' n' S' R') e = cc
run_alike c p A (turn B n S R) (Run.rest B') e = cc
run_alike c p A (turn {t = t} {g = g} {gs = gs} B n S R) (turn {r = r'} {t = t'} {g = g'} {gs = gs'} B' n' S' R') e =
    let same : g.call ≡ g'.call = cc in
    let more : calls gs ≡ calls gs' = cc in
    let S'' : Step c r' g.call g'.answer t' = rw same S' in
    let one = outcome_alike c p (alike_both A B B') (λ o. absurd (not_encode n o)) S S'' in
    let all = run_alike c p one.1 R R' more in
    (ap₂ ◌∷◌ (turn_path same one.0) all.0, all.1)

-- ---- an accepted rebuild

-- the state before it was sound, and it was accepted
pub record Rebuilds (l : Layout) (L : ℕ) (st : Standing) (xs : List ℕ) (u : Standing) (ys : List ℕ) : Type 0 where
  pub stands : Stands l L st xs
  pub step : Step (code_of l L) (stripe_of st xs) rebuild done (stripe_of u ys)

pub rebuilt : {l : Layout} {st u : Standing} {xs ys : List ℕ} {r : Said} → Rebuild l st xs r u ys → r.number ≡ 0 → Rebuilds l st.len st xs u ys
rebuilt R z =
    let O = does_done (rebuild_does R) z in
    let x = done_met (undone _) O.verdict.first in
    let y = done_met (undone _) x.1 in
    let w = done_met (undone _) y.1 in
    record {
      stands = record { len = refl; sound = record { given = x.0; size = y.0; unmarked = w.0 } };
      step = done_step O;
    }

-- "It stands outside demand 3's lists; an accepted one ends as single repairs of every lost block, in rising block order, would": such repairs, as calls of
-- the store, are all accepted, and leave the same standing and the same bytes
pub demand_3_rebuild : {l : Layout} {st st' v : Standing} {xs ys zs : List ℕ} {r : Said} {gs : List Turn} → Rebuild l st xs r st' ys → r.number ≡ 0
    → Runs l st xs gs v zs → calls gs ≡ calls (rising (marked st.lost) (blocks l))
    → (gs ≡ rising (marked st.lost) (blocks l)) × (v ≡ st') × (zs ≡ ys)
demand_3_rebuild {l} {st} {st'} {v} {xs} {ys} {zs} {gs = gs} R z G e = (sym both.0, sym (standing_one (P.stands.len ∙ sym d.len) both.1.marks), bytes)
  where
    d : Lent l st xs (unmarked l st) rebuild (rebuild_does R).answer st' ys
    d = (rebuild_does R).leaves

    W : Rebuilds l st.len st xs st' ys
    W = rebuilt R z

    P : Passage l st.len st xs gs v zs
    P = passage W.stands G

    both : (rising (marked st.lost) (blocks l) ≡ gs) × Alike (code_of l st.len) (stripe_of st' ys) (stripe_of v zs)
    both =
        let p = code_proper l W.stands.sound.given st.len in
        run_alike (code_of l st.len) p (alike_self (code_of l st.len) (stripe_of st xs)) (rebuild_run (code_of l st.len) p W.step) P.run (sym e)

    same : Same (code_of l st.len) (stripe_of st' ys) (stripe_of v zs)
    same = record { marks = both.1.marks; bytes = λ b x h k. both.1.bytes b x h (repairs_below (code_of l st.len) W.step.effect b h) k }

    bytes : zs ≡ ys
    bytes =
        let size = W.stands.sound.size in
        let size' = P.stands.sound.size.whole in
        same_list (code_of l st.len) ys zs size.range.least (d.long ∙ size.whole) (rw P.stands.len at size') (rw (d.len, P.stands.len) at same)
