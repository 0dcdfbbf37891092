-- Proved: which facts make which part of a view in numbers, that it lies inside its slice, and that a slice cut there is the part of a view.
use mathlib.Core.Path.{◌≡◌, refl, ap, ◌∙◌, subst}
use mathlib.Core.Bool.{Bool, true, false}
use mathlib.Core.List.{List}
use Prim.Native.Nat.{ℕ, zero, suc, ◌+◌, ◌-◌, ◌*◌, ◌<◌, ◌≤◌}
use native.Mathlib.Omega.{arith}
use denote.Ref.{Bor}
use lib.ListN.{length, take, drop}
use Rattle.groups.specs.declared.Layout.{Layout}
use Rattle.marks.specs.Marks.{marked}
use Rattle.rows.specs.Rows.{blocks}
use Rattle.calls.specs.Calls as Calls
use Rattle.calls.specs.Calls.{by, done, refused}
use Rattle.calls.proofs.Answers.{fetch_met}
use Rattle.pieces.proofs.Blocks.{under}
use Rattle.plan.specs.declared.Standing.{Standing}
use Rattle.stripe.specs.declared.Part.{Part}
use Rattle.shape.specs.Shapes.{Sized}
use Rattle.stripe.specs.Stripes.{PartOf, HandedBack, part_in, Placed, Views, slice_of}
use Rattle.stripe.proofs.Fetching.{FetchIs, fetch_sized}

-- ---- parts

-- a part from a to a + m
pub middle_part : (s r : Bor (List ℕ)) (a m : ℕ) → r.now ≡ take (a + m - a) (drop a s.now) → r.ref_ptr ≡ (s.ref_ptr.0, a + s.ref_ptr.1) → PartOf s a m r
middle_part s r a m holds place =
    let cut : a + m - a ≡ m = omega arith in
    record { holds = holds ∙ ap (λ (n : ℕ). take n (drop a s.now)) cut; place = place }

-- a block of the stripe lies inside it
pub inside : (l : Layout) (L b size : ℕ) → Sized l L size → b < blocks l → b * L + L ≤ size
inside l L b size s below = omega (arith, s.whole, under L b (blocks l) below)

pub slice_spare : {A : Type 0} (x y : A) (n : ℕ) → (n ≡ 0 → ⊥) → slice_of x y n ≡ y
slice_spare x y zero h = absurd (h refl)
slice_spare x y (suc n) h = refl

-- what is less than m of both is less than m of the one that is named
pub slice_less : {x y m : ℕ} → x < m → y < m → (n : ℕ) → slice_of x y n < m
slice_less h k zero = h
slice_less h k (suc n) = k

-- ---- the part in numbers

module _ (l : Layout) (st : Standing) (size room b : ℕ) where
  -- the part of a block that is not lost is in the stripe
  module _ (v : FetchIs l st b size room done) where
    pub placed_present : marked st.lost b ≡ false → Placed l st size room b (record { slice = 0; from = b * st.len; len = st.len })
    placed_present e = record { answer = done; verdict = v; part = rw e refl }

  abbrev Fits : Part → Type 0
  Fits p = p.from + p.len ≤ slice_of size room p.slice

  -- it lies inside its slice
  pub placed_inside : {p : Part} → Placed l st size room b p → Fits p
  placed_inside P = rw P.part (at P.answer P.verdict)
    where
      chosen : FetchIs l st b size room done → (t : Bool) → marked st.lost b ≡ t → Fits (part_in st b done)
      chosen v true e = rw e (omega (arith, (fetch_met v).1))
      chosen v false e = rw e (inside l st.len b size (fetch_sized l st b size room v) (fetch_met v).0)

      at : (a : Calls.Answer) → FetchIs l st b size room a → Fits (part_in st b a)
      at (refused _) v = omega arith
      at done v = chosen v (marked st.lost b) refl

-- a slice cut there is the part that a view hands back
pub placed_views : (l : Layout) (st : Standing) (b : ℕ) (stripe spare : Bor (List ℕ)) {p : Part} → Placed l st (length stripe.now) (length spare.now) b p
    → (r : Bor (List ℕ)) → PartOf (slice_of stripe spare p.slice) p.from p.len r → Views l st b stripe spare r
placed_views l st b stripe spare P r h =
    record {
      answer = P.answer;
      verdict = P.verdict;
      part = at P.answer (subst (λ (p : Part). PartOf (slice_of stripe spare p.slice) p.from p.len r) P.part h);
    }
  where
    at : (a : Calls.Answer) → PartOf (slice_of stripe spare (part_in st b a).slice) (part_in st b a).from (part_in st b a).len r → HandedBack st b stripe spare a r
    at (refused _) x = x
    at done x = record { lost = λ e. rw e at x; present = λ e. rw e at x }
