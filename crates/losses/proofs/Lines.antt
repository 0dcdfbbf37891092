-- Proved: how long what is printed of a lost block can be, and that the lines of the blocks go on from one block to the next.
use Prim.Native.Nat.{ℕ, ◌+◌, ◌*◌, ◌<◌, ◌≤◌}
use mathlib.Core.Path.{◌≡◌, sym, ap, subst}
use mathlib.Core.Bool.{true, false}
use mathlib.Core.List.{List, [], ◌++◌, append-nil}
use native.Mathlib.Omega.{arith}
use native.Mathlib.Numerals.{add-one}
use lib.ListN.{length, get_or, length-append}
use Rattle.std.specs.Prelude.{Result, Ok, Err, IfOk, IsErrAnd, MatchResult}
use Rattle.linear.specs.Sets.{tally}
use Rattle.linear.proofs.Existence.{plan_few}
use Rattle.groups.specs.declared.Layout.{Layout}
use Rattle.given.specs.Given.{Given}
use Rattle.given.proofs.Facts.{given_proper}
use Rattle.marks.specs.Marks.{marked}
use Rattle.rows.specs.Rows.{blocks, row}
use Rattle.rows.proofs.Parts.{row_byte}
use Rattle.calls.specs.Calls.{Verdict, repair, done}
use Rattle.calls.proofs.Needs.{undone, done_met}
use Rattle.calls.proofs.Answers.{repair_met}
use Rattle.plan.specs.declared.Standing.{Standing}
use Rattle.plan.specs.declared.Plan.{Plan}
use Rattle.plan.specs.declared.Refusal.{Refusal}
use Rattle.plan.specs.Codes.{code_of, InRange, front}
use Rattle.plan.specs.Plans.{IsListed, Plans}
use Rattle.plan.specs.Refusals.{number}
use Rattle.plan.proofs.Codes.{code_proper}
use Rattle.plan.proofs.Listings.{Listed, list_of_listed, entry_below}
use Rattle.loss.specs.Line.{plan_text, line_of}
use Rattle.losses.specs.Lines.{numbered, Lines, none, present, lost}
use Rattle.text.specs.Put.{Put}
use Rattle.losses.specs.Inner.{Written, Goes}
use Rattle.text.proofs.Items.{items_short}
use Rattle.text.proofs.Digits.{decimal_below, decimal_short}
use Rattle.text.proofs.Puts.{put_nothing, put_then}

-- ---- a plan

-- 32 blocks or fewer are read, each below 48
pub record Short (p : Plan) : Type 0 where
  pub reads : p.reads ≤ 32
  pub blocks : (i : ℕ) → i < p.reads → get_or p.block i 0 < 48

module _ (l : Layout) (st : Standing) (b : ℕ) where
  pub plan_short : (r : Result Plan Refusal) → Plans l st b r → IfOk r Short
  plan_short (Err e) x = tt
  plan_short (Ok p) x =
      record {
        reads = omega (arith, list.reads, few);
        blocks = λ i h. omega (arith, entry_below list i h, (given_proper l given).n);
      }
    where
      y : IsListed l st.len st.lost b p
      y = x.plan

      accepted : Verdict (front l st (InRange st.len)) (code_of l st.len) (marked st.lost) (repair b) done
      accepted = x.verdict

      given : Given l
      given = (done_met (undone _) accepted.first).0

      few : tally y.coef (blocks l) ≤ 32
      few =
          omega (
            arith,
            (given_proper l given).k,
            plan_few (blocks l) l.k (row l) (row_byte l) _ (λ p h. (code_proper l given st.len).below (marked st.lost) b p (repair_met accepted).0 h) y.plan,
          )

      list : Listed y.coef (blocks l) p
      list = subst (λ (p : Plan). Listed y.coef (blocks l) p) (sym y.listed) (list_of_listed y.coef (blocks l) few)

pub reads_short : (r : Result Plan Refusal) → IfOk r Short → IfOk (numbered r) (λ p. p.reads ≤ 32)
reads_short (Ok p) s = s.reads
reads_short (Err e) s = tt

-- what `map_err` makes of it
pub numbered_is : (r : Result Plan Refusal) (s : Result Plan ℕ) → MatchResult r (λ p. s ≡ Ok p) (λ e. IsErrAnd s (λ n. n ≡ number e)) → s ≡ numbered r
numbered_is (Ok p) s h = h
numbered_is (Err e) (Ok p) h = absurd h
numbered_is (Err e) (Err n) h = ap Err h

text_short : (r : Result Plan Refusal) → IfOk r Short → length (plan_text (numbered r)) ≤ 224
text_short (Ok p) s = omega (arith, s.reads, items_short p.block p.coef p.reads s.blocks)
text_short (Err e) s = omega (arith, decimal_short (number e))

pub line_short : (b : ℕ) (r : Result Plan Refusal) → b < 48 → IfOk r Short → length (line_of b (numbered r)) ≤ 232
line_short b r h s =
    simp length-append (omega (arith, decimal_below b (omega arith), text_short r s))

-- ---- lines

module _ (l : Layout) (st : Standing) where
  pub goes_present : (b at : ℕ) (a : List ℕ) → marked st.lost b ≡ false → Written (Goes l st b) 232 at a a at
  goes_present b at a e =
      record { text = []; holds = λ f x. rw (append-nil f) (present x e); short = omega arith; put = put_nothing at a }

  pub goes_lost : (b : ℕ) {at e : ℕ} {a c : List ℕ} {r : Result Plan Refusal} → b < 48 → marked st.lost b ≡ true → Plans l st b r
      → Put (line_of b (numbered r)) at a c e → Written (Goes l st b) 232 at a c e
  goes_lost b {r = r} h o x p =
      record { text = line_of b (numbered r); holds = λ f y. lost y o x; short = line_short b r h (plan_short l st b r x); put = p }

  pub lines_none : (at : ℕ) (a : List ℕ) → Written (Lines l st 0) 0 at a a at
  lines_none at a = record { text = []; holds = none; short = omega arith; put = put_nothing at a }

  pub lines_more : (b : ℕ) {at m e : ℕ} {a c d : List ℕ} → Written (Lines l st b) (232 * b) at a c m → Written (Goes l st b) 232 m c d e
      → Written (Lines l st (b + 1)) (232 * (b + 1)) at a d e
  lines_more b w g =
      record {
        text = w.text ++ g.text;
        holds = rw (add-one b) (g.holds w.text w.holds);
        short = omega (arith, length-append w.text g.text, w.short, g.short);
        put = put_then w.put g.put;
      }
