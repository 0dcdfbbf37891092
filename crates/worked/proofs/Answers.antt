-- Proved: what the question for a plan answers in each case of document 01, "A depot pair worked through": the plan that is said, listed, or 14.
use mathlib.Core.Path.{◌≡◌, refl}
use mathlib.Core.Bool.{Bool, true, false}
use mathlib.Core.List.{List, [], ◌∷◌}
use mathlib.Core.Logic.{inl, inr}
use Prim.Native.Nat.{ℕ, ◌<◌, ◌≤◌}
use native.Mathlib.Omega.{arith}
use lib.Dec.{T, ltb, ltb→lt}
use Rattle.field.specs.Field.{◌⊕◌}
use Rattle.field.proofs.Table.{both, both_left, both_right}
use Rattle.marks.specs.Marks.{marked, with_mark, none_from}
use Rattle.marks.proofs.Bits.{none_from_lem}
use Rattle.rows.specs.Rows.{blocks}
use Rattle.std.specs.Prelude.{Ok}
use Rattle.plan.specs.Codes.{InRange}
use Rattle.plan.specs.Listing.{list_of}
use Rattle.plan.specs.Plans.{Plans}
use Rattle.worked.specs.Depot.{depot}
use Rattle.worked.specs.Plans.{coefs, Says, by, nothing, Case, cases, marks_of, lost_set, Right, standing, answered, Each, end, also}
use Rattle.worked.proofs.Rows.{depot_given, depot_blocks}
use Rattle.worked.proofs.Plans.{cases_right}

-- the block is one of the seven, is lost, and no mark stands at 7 or above
abbrev fine : Case → Bool
fine c = both (ltb c.block 7) (both (lost_set c.lost c.block) (none_from (marks_of c.lost) 7))

abbrev all_fine : List Case → Bool
all_fine [] = true
all_fine (c ∷ cs) = both (fine c) (all_fine cs)

yes_true : (x : Bool) → T x → x ≡ true
yes_true true t = refl
yes_true false t = absurd t

pub in_range : InRange 1
in_range = record { least = omega arith; most = omega arith }

module _ (lost : List ℕ) (b : ℕ) (below : b < 7) (gone : lost_set lost b ≡ true) (none : none_from (marks_of lost) 7 ≡ true) where
  inside : b < blocks depot
  inside = omega (arith, depot_blocks.1)

  unmarked : (a : ℕ) → blocks depot ≤ a → marked (marks_of lost) a ≡ false
  unmarked a h = (none_from_lem (marks_of lost) 7).0 none a (omega (arith, depot_blocks.1))

  answers : (s : Says) → Right lost b s → Plans depot (standing lost) b (answered s)
  answers (by l) x = rw depot_blocks.1 at planned
    where
      planned : Plans depot (standing lost) b (Ok (list_of (coefs l) (blocks depot)))
      planned =
          record {
            verdict = record { first = inr (depot_given, inr (in_range, inr (unmarked, inr (inside, inr (gone, inr (x.0, refl)))))) };
            plan = record { coef = coefs l; plan = x.1; listed = refl };
          }
  answers nothing x =
      record {
        verdict = record { first = inr (depot_given, inr (in_range, inr (unmarked, inr (inside, inr (gone, inl (x, refl)))))) };
        plan = tt;
      }

each_answered : (cs : List Case) → T (all_fine cs) → Each (λ (c : Case). Right c.lost c.block c.says) cs
    → Each (λ (c : Case). Plans depot (standing c.lost) c.block (answered c.says)) cs
each_answered [] o end = end
each_answered (c ∷ cs) o (also x xs) =
    let f = both_left (fine c) (all_fine cs) o in
    let g = both_right (ltb c.block 7) _ f in
    also
    (answers c.lost c.block (ltb→lt c.block 7 (both_left (ltb c.block 7) _ f))
    (yes_true (lost_set c.lost c.block) (both_left (lost_set c.lost c.block) _ g))
    (yes_true (none_from (marks_of c.lost) 7) (both_right (lost_set c.lost c.block) _ g))
    c.says x)
    (each_answered cs (both_right (fine c) (all_fine cs) o) xs)

-- EVERY CASE IS ANSWERED SO
pub cases_answered : Each (λ (c : Case). Plans depot (standing c.lost) c.block (answered c.says)) cases
unfolding marks_of with_mark marked none_from ◌⊕◌
cases_answered = each_answered cases tt cases_right
