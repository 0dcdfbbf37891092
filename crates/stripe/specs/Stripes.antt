-- Believed: document 01, "Repairs, corrections, reading": what an encoding, a loss, a fetch and a view answer and leave, through the
-- definitions of `calls` at the layout's own matrix and order. A refusal alters nothing lent.
use Rattle.std.specs.Prelude.{◌≡◌, List, [], ◌∷◌, true, false, cond, ℕ, zero, suc, ◌+◌, ◌*◌, length, take, drop, Result}
use Rattle.std.specs.Borrow.{Bor}
use Rattle.groups.specs.declared.Layout.{Layout}
use Rattle.given.specs.Given.{Given}
use Rattle.marks.specs.Marks.{marked}
use Rattle.calls.specs.Calls as Calls
use Rattle.calls.specs.Calls.{◌unless◌, by, done, refused, encode, lose, fetch, Verdict, Outcome, Fetch}
use Rattle.plan.specs.declared.Standing.{Standing}
use Rattle.plan.specs.declared.Refusal.{Refusal}
use Rattle.plan.specs.Codes.{code_of, InRange, front}
use Rattle.plan.specs.Refusals.{said}
use Rattle.shape.specs.Shapes.{Sized, stripe_of, after}
use Rattle.stripe.specs.declared.Part.{Part}

-- encoding asks 6 and 7; "Encoding ignores old marks and never gives 8"
pub record Encodes (l : Layout) (st : Standing) (xs ys : List ℕ) (r : Result Standing Refusal) : Type 0 where
  pub outcome : Outcome ((by 6 unless Given l) ∷ (by 7 unless Sized l st.len (length xs)) ∷ []) (code_of l st.len) (stripe_of st xs) encode
      (said r) (stripe_of (after st r) ys)
  pub len : (after st r).len ≡ st.len
  pub long : length ys ≡ length xs

-- a loss asks 6, 7 (L alone) and 8, then 9 and 11; it is not lent the stripe, and changes no byte of any
pub record Loses (l : Layout) (st : Standing) (b : ℕ) (r : Result Standing Refusal) : Type 0 where
  pub outcome : (xs : List ℕ) → Outcome (front l st (InRange st.len)) (code_of l st.len) (stripe_of st xs) (lose b)
      (said r) (stripe_of (after st r) xs)
  pub len : (after st r).len ≡ st.len

-- fetching asks 6, 7, 8, then 9, 13 and 14
pub record Fetches (l : Layout) (st : Standing) (b : ℕ) (xs old new : List ℕ) (r : Result (Unit {0}) Refusal) : Type 0 where
  pub fetch : Fetch (front l st (Sized l st.len (length xs))) (code_of l st.len) (stripe_of st xs) b old (said r) (stripe_of st xs) new

-- r is the part of s of m bytes from position at on: what it holds, and where it stands
pub record PartOf (s : Bor (List ℕ)) (at m : ℕ) (r : Bor (List ℕ)) : Type 0 where
  pub holds : r.now ≡ take m (drop at s.now)
  pub place : r.ref_ptr ≡ (s.ref_ptr.0, at + s.ref_ptr.1)

-- "the part of the stripe, or the part of the spare, that holds the block: a present block where it stands, a lost one from the spare as it is"
pub record Viewed (st : Standing) (b : ℕ) (stripe spare r : Bor (List ℕ)) : Type 0 where
  pub lost : marked st.lost b ≡ true → PartOf spare 0 st.len r
  pub present : marked st.lost b ≡ false → PartOf stripe (b * st.len) st.len r

-- "Where the first would refuse, the second hands back an empty part": it stands at the front of the spare
abbrev pub HandedBack : Standing → ℕ → Bor (List ℕ) → Bor (List ℕ) → Calls.Answer → Bor (List ℕ) → Type 0
HandedBack st b stripe spare (refused _) r = PartOf spare 0 0 r
HandedBack st b stripe spare done r = Viewed st b stripe spare r

-- the same part in numbers
abbrev pub part_in : Standing → ℕ → Calls.Answer → Part
part_in st b (refused _) = record { slice = 1; from = 0; len = 0 }
part_in st b done =
    cond (marked st.lost b) (record { slice = 1; from = 0; len = st.len }) (record { slice = 0; from = b * st.len; len = st.len })

-- of the stripe and the spare, or of their lengths, the one that such a number names
abbrev pub slice_of : {A : Type 0} → A → A → ℕ → A
slice_of stripe spare zero = stripe
slice_of stripe spare (suc _) = spare

-- of a stripe of `size` bytes and a spare of `room` bytes; it asks what fetching asks
pub record Placed (l : Layout) (st : Standing) (size room b : ℕ) (r : Part) : Type 0 where
  pub answer : Calls.Answer
  pub verdict : Verdict (front l st (Sized l st.len size)) (code_of l st.len) (marked st.lost) (fetch b room) answer
  pub part : r ≡ part_in st b answer

-- viewing asks what fetching asks of the same stripe and spare
pub record Views (l : Layout) (st : Standing) (b : ℕ) (stripe spare r : Bor (List ℕ)) : Type 0 where
  pub answer : Calls.Answer
  pub verdict : Verdict (front l st (Sized l st.len (length stripe.now))) (code_of l st.len) (marked st.lost) (fetch b (length spare.now)) answer
  pub part : HandedBack st b stripe spare answer r
