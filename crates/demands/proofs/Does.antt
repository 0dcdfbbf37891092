-- Proved: the store's calls that are lent the standing, by what they have in common: one answer, told in numbers, one standing, and one stripe.
use mathlib.Core.Path.{◌≡◌, refl, sym, ap, ◌∙◌, subst}
use mathlib.Core.Bool.{Bool}
use mathlib.Core.List.{List, [], ◌++◌}
use Prim.Native.Nat.{ℕ}
use lib.ListN.{length}
use Rattle.groups.specs.declared.Layout.{Layout}
use Rattle.marks.specs.Marks.{marked}
use Rattle.calls.specs.Code.{Code}
use Rattle.calls.specs.Calls as Calls
use Rattle.calls.specs.Calls.{Call, encode, lose, repair, rebuild, Need, done, refused, naming, needs, Verdict, Outcome}
use Rattle.calls.specs.Demands.{Alike, Lowest}
use Rattle.calls.proofs.Answers.{rebuild_refused}
use Rattle.plan.specs.declared.Standing.{Standing}
use Rattle.plan.specs.Codes.{code_of, InRange}
use Rattle.plan.specs.Refusals.{said}
use Rattle.plan.proofs.Verdicts.{number_of}
use Rattle.shape.specs.Shapes.{Sized, stripe_of}
use Rattle.repairs.specs.Repairs.{told}
use Rattle.store.specs.declared.Said.{Said}
use Rattle.store.specs.Store.{Encode, Lose, Repair, Rebuild}
use Rattle.demands.specs.Runs.{Between, numbered}
use Rattle.demands.specs.Table.{Row, Answered}
use Rattle.demands.proofs.Answers.{said_0, told_0, saying, saying_number, spoken_says, named_says, numbered_said}
use Rattle.demands.proofs.Outcomes.{asked, Leaves, unmarked, leaves_alike, leaves_kept, leaves_same, leaves_unique, encode_leaves, lose_leaves, repair_leaves, rebuild_leaves}
use Rattle.demands.proofs.Rows.{Agree, answered}

-- lent the stripe xs with the standing st, the call q is answered r in numbers, and leaves the stripe ys with the standing u
pub record Does (l : Layout) (st : Standing) (sized : Type 0) (xs : List ℕ) (rest : List Need) (q : Call) (r : Said) (u : Standing) (ys : List ℕ)
    : Type 0 where
  pub answer : Calls.Answer
  pub leaves : Leaves l st sized xs rest q answer u ys
  pub said : r ≡ saying answer
  pub accepted : number_of answer ≡ 0 → answer ≡ done

-- ---- the calls

module _ {l : Layout} {st u : Standing} {xs ys : List ℕ} {r : Said} where
  pub encode_does : Encode l st xs r u ys → Does l st (Sized l st.len (length xs)) xs [] encode r u ys
  encode_does h =
      record {
        answer = said h.answer;
        leaves = rw h.left (encode_leaves h.does);
        said = h.said ∙ spoken_says h.answer;
        accepted = said_0 h.answer;
      }

  pub repair_does : {b : ℕ} → Repair l st xs b r u ys → Does l st (Sized l st.len (length xs)) xs (unmarked l st) (repair b) r u ys
  repair_does h =
      record {
        answer = said h.answer;
        leaves = rw h.left (repair_leaves h.does);
        said = h.said ∙ spoken_says h.answer;
        accepted = said_0 h.answer;
      }

  pub rebuild_does : Rebuild l st xs r u ys → Does l st (Sized l st.len (length xs)) xs (unmarked l st) rebuild r u ys
  rebuild_does h =
      record {
        answer = told h.answer;
        leaves = rw h.left (rebuild_leaves h.does);
        said = h.said ∙ named_says h.answer;
        accepted = told_0 h.answer;
      }

pub lose_does : {l : Layout} {st u : Standing} {b : ℕ} {r : Said} (xs : List ℕ) → Lose l st b r u
    → Does l st (InRange st.len) xs (unmarked l st) (lose b) r u xs
lose_does xs h =
    record {
      answer = said h.answer;
      leaves = rw h.left (lose_leaves xs h.does);
      said = h.said ∙ spoken_says h.answer;
      accepted = said_0 h.answer;
    }

-- ---- what they have in common

module _ {l : Layout} {st : Standing} {sized : Type 0} {xs : List ℕ} {rest : List Need} {q : Call} {r : Said} {u : Standing} {ys : List ℕ}
    (h : Does l st sized xs rest q r u ys) where
  pub does_number : r.number ≡ number_of h.answer
  does_number = ap (λ (s : Said). s.number) h.said ∙ saying_number h.answer

  -- what is told by 0 is accepted
  pub does_done : r.number ≡ 0 → Outcome (asked l sized rest) (code_of l st.len) (stripe_of st xs) q done (stripe_of u ys)
  does_done e =
      subst (λ (a : Calls.Answer). Outcome (asked l sized rest) (code_of l st.len) (stripe_of st xs) q a (stripe_of u ys))
      (h.accepted (sym does_number ∙ e)) h.leaves.outcome

  -- any other number leaves the standing and every byte of the stripe
  pub does_kept : (number_of h.answer ≡ 0 → ⊥) → (u ≡ st) × (ys ≡ xs)
  does_kept n = at h.answer refl
    where
      at : (a : Calls.Answer) → h.answer ≡ a → (u ≡ st) × (ys ≡ xs)
      at done e = absurd (n (ap number_of e))
      at (refused _) e = leaves_kept h.leaves e

  -- the number is that of the rows which the call asks
  pub does_answered : {rs : List Row} → Agree (asked l sized rest ++ needs (code_of l st.len) (marked st.lost) q) rs
      → Answered rs r.number ((u ≡ st) × (ys ≡ xs))
  does_answered e = answered e h.answer h.leaves.outcome.verdict.first (sym does_number) does_kept

  -- of stripes that are alike: one answer, one standing, and stripes that are alike
  pub does_alike : {xs₂ : List ℕ} {r₂ : Said} {u₂ : Standing} {ys₂ : List ℕ} → Does l st sized xs₂ rest q r₂ u₂ ys₂ → (q ≡ encode → ⊥)
      → Between l st xs xs₂ → (r ≡ r₂) × (u ≡ u₂) × Between l u ys ys₂
  does_alike {u₂ = u₂} {ys₂ = ys₂} k n B =
      let x = leaves_alike h.leaves k.leaves n B.alike in (
        h.said ∙ ap saying x.0 ∙ sym k.said,
        x.1,
        record {
          long = k.leaves.long ∙ B.long ∙ sym h.leaves.long;
          alike = subst (λ (v : Standing). Alike (code_of l u.len) (stripe_of u ys) (stripe_of v ys₂)) (sym x.1) (rw (← h.leaves.len) at x.2);
        },
      )

  -- of one stripe: one answer and one standing
  pub does_same : {r₂ : Said} {u₂ : Standing} {ys₂ : List ℕ} → Does l st sized xs rest q r₂ u₂ ys₂ → (r ≡ r₂) × (u ≡ u₂)
  does_same k = let x = leaves_same h.leaves k.leaves in (h.said ∙ ap saying x.0 ∙ sym k.said, x.1)

-- the number of a loss and of a repair is their answer
pub lose_numbered : {l : Layout} {st u : Standing} {b : ℕ} {r : Said} (xs : List ℕ) (h : Lose l st b r u) → numbered r.number ≡ (lose_does xs h).answer
unfolding lose_does
lose_numbered xs h = ap numbered (does_number (lose_does xs h)) ∙ numbered_said h.answer

pub repair_numbered : {l : Layout} {st u : Standing} {xs ys : List ℕ} {b : ℕ} {r : Said} (h : Repair l st xs b r u ys)
    → numbered r.number ≡ (repair_does h).answer
unfolding repair_does
repair_numbered h = ap numbered (does_number (repair_does h)) ∙ numbered_said h.answer

-- of a stripe of the right size: one list of bytes
module _ {l : Layout} {st : Standing} {xs : List ℕ} {rest : List Need} {q : Call} where
  pub does_one : {r r₂ : Said} {u u₂ : Standing} {ys ys₂ : List ℕ} → Does l st (Sized l st.len (length xs)) xs rest q r u ys
      → Does l st (Sized l st.len (length xs)) xs rest q r₂ u₂ ys₂ → (r ≡ r₂) × (u ≡ u₂) × (ys ≡ ys₂)
  does_one h k = let x = does_same h k in (x.0, x.1, (leaves_unique h.leaves k.leaves).2)

-- ---- the block that a rebuild names

-- a sound rebuild that is not accepted is told by 14 and the lowest lost block without a plan
pub named_lowest : (c : Code) (lost : ℕ → Bool) (a : Calls.Answer) → Verdict [] c lost rebuild a → (number_of a ≡ 0 → ⊥)
    → (number_of a ≡ 14) × Lowest c lost (saying a).block
named_lowest c lost done v n = absurd (n refl)
named_lowest c lost (refused r) v n = let x = rebuild_refused c lost v in rw x.1 (refl, x.2)
