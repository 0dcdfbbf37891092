-- Proved: which facts make which answer to a fetch, and that what was done then is what `calls` asks.
use mathlib.Core.Path.{◌≡◌, refl, sym, ◌∙◌}
use mathlib.Core.Bool.{true, false}
use mathlib.Core.List.{List}
use mathlib.Core.Logic.{inr}
use Prim.Native.Nat.{ℕ, ◌<◌}
use native.Mathlib.Omega.{arith}
use Rattle.std.specs.Prelude.{Some, Ok, Err}
use lib.ListN.{length}
use Rattle.linear.proofs.Sets.{in_and_out}
use Rattle.groups.specs.declared.Layout.{Layout}
use Rattle.given.specs.Given.{Given}
use Rattle.marks.specs.Marks.{marked}
use Rattle.rows.specs.Rows.{blocks}
use Rattle.calls.specs.Calls as Calls
use Rattle.calls.specs.Calls.{fetch, by, done, refused, Verdict}
use Rattle.plan.specs.declared.Refusal.{Refusal}
use Rattle.plan.specs.declared.Standing.{Standing}
use Rattle.plan.specs.Codes.{code_of, front, Sound}
use Rattle.plan.specs.Inner.{Coefficients}
use Rattle.plan.specs.Front.{FrontSays}
use Rattle.plan.specs.Refusals.{number}
use Rattle.pieces.specs.Pieces.{Sources, Gathered}
use Rattle.shape.specs.Shapes.{Sized}
use Rattle.stripe.specs.Reads.{Asks}
use Rattle.stripe.specs.Stripes.{Fetches}
use Rattle.calls.proofs.Needs.{undone, done_met}
use Rattle.calls.proofs.Answers.{fetch_met}
use Rattle.plan.proofs.Fronts.{front_given, front_passed}
use Rattle.pieces.proofs.Combining.{sources}
use Rattle.pieces.proofs.Effects.{by_plan}
use Rattle.shape.proofs.Plans.{planned, has_plan}

-- what is asked, by numbers: `size` bytes of stripe, `room` bytes of spare
module _ (l : Layout) (st : Standing) (b size room : ℕ) where
  abbrev pub FetchIs : Calls.Answer → Type 0
  FetchIs a = Verdict (front l st (Sized l st.len size)) (code_of l st.len) (marked st.lost) (fetch b room) a

  -- a block that is not lost is read as it stands
  pub fetch_present : Sound l st (Sized l st.len size) → b < blocks l → room ≡ st.len → marked st.lost b ≡ false → FetchIs done
  fetch_present s below fits e = record { first = inr (s.given, inr (s.size, inr (s.unmarked, inr (below, inr (fits, inr (λ h. in_and_out h e, refl)))))) }

  -- past the tests a lost block is read by its plan
  pub asks_planned : {u : Unit {0}} → FrontSays l st (Sized l st.len size) (Ok u) → b < blocks l → room ≡ st.len → marked st.lost b ≡ true
      → {coef : List ℕ} → Coefficients l st.lost b (Some coef) → Asks l st size room b (Ok (Some coef))
  asks_planned s below fits lost x =
      record {
        verdict =
            front_passed s (code_of l st.len) (marked st.lost) (fetch b room)
            (inr (below, inr (fits, inr (λ h. has_plan l (front_given s) st.len st.lost b x below, refl))));
        way = (lost, x);
      }

-- an accepted fetch is of a given layout and a whole stripe
pub fetch_given : (l : Layout) (st : Standing) (b size room : ℕ) → FetchIs l st b size room done → Given l
fetch_given l st b size room v = (done_met (undone (by 6)) v.first).0

pub fetch_sized : (l : Layout) (st : Standing) (b size room : ℕ) → FetchIs l st b size room done → Sized l st.len size
fetch_sized l st b size room v = (done_met (undone (by 7)) (done_met (undone (by 6)) v.first).1).0

-- a refused fetch, and one of a block that is not lost, leave the spare
module _ (l : Layout) (st : Standing) (b : ℕ) (xs old : List ℕ) where
  pub fetches_refused : (e : Refusal) → FetchIs l st b (length xs) (length old) (refused (by (number e))) → Fetches l st b xs old old (Err e)
  fetches_refused e v = record { fetch = record { outcome = record { verdict = v; effect = refl }; spare = refl } }

  pub fetches_present : FetchIs l st b (length xs) (length old) done → marked st.lost b ≡ false → Fetches l st b xs old old (Ok tt)
  fetches_present v e =
      record {
        fetch = record {
          outcome = record { verdict = v; effect = refl };
          spare = record { long = refl; block = λ h. in_and_out h e; present = λ h. refl };
        };
      }

module _ (l : Layout) (st : Standing) (b : ℕ) (xs old : List ℕ) {coef : List ℕ} (A : Asks l st (length xs) (length old) b (Ok (Some coef))) where
  -- its plan asks for blocks of the stripe
  pub fetch_sources : Sources xs coef st.len
  fetch_sources = sources (blocks l) (λ i h k. A.way.1.past i h) (omega (arith, (fetch_sized l st b (length xs) (length old) A.verdict).whole))

  pub fetches_done : (new : List ℕ) → Gathered coef xs st.len new → Fetches l st b xs old new (Ok tt)
  fetches_done new G =
      record {
        fetch = record {
          outcome = record { verdict = A.verdict; effect = refl };
          spare = record {
            long = G.long ∙ sym (fetch_met A.verdict).1;
            block = λ h. by_plan (code_of l st.len) (marked st.lost) refl (planned l (fetch_given l st b (length xs) (length old) A.verdict) st.len st.lost b A.way.1) G;
            present = λ h. in_and_out A.way.0 h;
          };
        };
      }
