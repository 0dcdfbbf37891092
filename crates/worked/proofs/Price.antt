-- Proved: the price of the depot pair of document 01: T is 8, so that storage is 7 / 4, exactly 1.75, and mean reads are 8 / 4, exactly 2.0.
use mathlib.Core.Path.{◌≡◌, refl, subst}
use mathlib.Core.Bool.{Bool}
use mathlib.Core.List.{[], ◌∷◌}
use Prim.Native.Nat.{ℕ}
use lib.Ieee as Ieee
use Rattle.field.specs.Field.{◌⊕◌}
use Rattle.linear.specs.Sets.{count}
use Rattle.linear.specs.Sums.{put}
use Rattle.note.specs.Tree.{over, over_in, datas, redundants, layout_of}
use Rattle.rows.specs.Rows.{blocks}
use Rattle.calls.specs.Code.{PlanOf}
use Rattle.plan.specs.Codes.{code_of}
use Rattle.price.specs.declared.Price.TheVariants.{Fits}
use Rattle.price.specs.Sheet.{alone, Reads, none, more, quotient, sheet_of}
use Rattle.price.proofs.Totals.{alone_is}
use Rattle.worked.specs.Depot.{depot, storage, reads}
use Rattle.worked.specs.Plans.{◌times◌, coefs, Case, marks_of, lost_set, Right, Each, end, also}
use Rattle.worked.proofs.Plans.{lone, lone_right}

-- each data block's plan, lost alone, reads two blocks
pub depot_reads : Reads depot 4 8
unfolding coefs put count ◌⊕◌ marks_of depot layout_of datas redundants over over_in
depot_reads = at lone_right
  where
    moved : (i : ℕ) (c : ℕ → ℕ) → PlanOf (code_of depot 1) (lost_set (i ∷ [])) i c → PlanOf (code_of depot 1) (alone i) i c
    moved i c p = subst (λ (lost : ℕ → Bool). PlanOf (code_of depot 1) lost i c) (alone_is i) p

    at : Each (λ (c : Case). Right c.lost c.block c.says) lone → Reads depot 4 8
    at (also a (also b (also c (also d end)))) =
        more (coefs (28 times 2 ∷ 130 times 6 ∷ []))
        (more (coefs (160 times 3 ∷ 131 times 6 ∷ []))
        (more (coefs (85 times 0 ∷ 128 times 5 ∷ []))
        (more (coefs (26 times 1 ∷ 129 times 5 ∷ [])) none (moved 0 (coefs (26 times 1 ∷ 129 times 5 ∷ [])) a.1))
        (moved 1 (coefs (85 times 0 ∷ 128 times 5 ∷ [])) b.1))
        (moved 2 (coefs (160 times 3 ∷ 131 times 6 ∷ [])) c.1))
        (moved 3 (coefs (28 times 2 ∷ 130 times 6 ∷ [])) d.1)

-- 7 / 4 and 8 / 4 are the document's figures; and limits that equal both fit
pub worked : (quotient 7 4 ≡ storage) × (quotient 8 4 ≡ reads) × (sheet_of 4 7 8 (record { storage = storage; reads = reads }) ≡ Fits storage reads)
unfolding Ieee.div Ieee.of_int Ieee.lt
worked = (refl, refl, refl)

pub depot_figures : (quotient (blocks depot) depot.k ≡ storage) × (quotient 8 depot.k ≡ reads)
unfolding depot layout_of datas redundants over over_in
depot_figures = (worked.0, worked.1)
