-- Believed: document 01, "When the store says no", 7, and "Repairs, corrections, reading": which length a stripe lent must have, what it is with its
-- standing, and which standing a call leaves.
use Rattle.std.specs.Prelude.{◌≡◌, List, ℕ, ◌*◌, Result, Ok, Err}
use Rattle.groups.specs.declared.Layout.{Layout}
use Rattle.marks.specs.Marks.{marked}
use Rattle.rows.specs.Rows.{blocks}
use Rattle.calls.specs.Calls.{Stripe, stripe}
use Rattle.plan.specs.declared.Standing.{Standing}
use Rattle.plan.specs.Codes.{InRange}

-- 7: "L outside its range, or stripe not n x L bytes"
pub record Sized (l : Layout) (L size : ℕ) : Type 0 where
  pub range : InRange L
  pub whole : size ≡ blocks l * L

-- a lent stripe with its standing
abbrev pub stripe_of : Standing → List ℕ → Stripe
stripe_of st xs = stripe st.len (marked st.lost) xs

-- the standing after a call: the one that it answers, or the one before it, since a refusal "alters nothing lent"
abbrev pub after : {E : Type 0} → Standing → Result Standing E → Standing
after st (Ok s) = s
after st (Err e) = st
