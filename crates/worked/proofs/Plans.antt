-- Proved: the plans of document 01, "A depot pair worked through", marked P: which lost blocks have a plan, which have none, and what the plans are,
-- by one statement over one list. The tests are computed on the rows as the layout gives them.
use mathlib.Core.Path.{◌≡◌, sym}
use mathlib.Core.Bool.{Bool, true, false, not}
use mathlib.Core.List.{List, [], ◌∷◌}
use Prim.Native.Nat.{ℕ, ◌+◌, ◌*◌, ◌<◌}
use lib.Dec.{T, eqb, ltb, eqb→eq, ltb→lt}
use lib.ListN.{get_or}
use Rattle.field.specs.Field.{◌⊕◌, double, mul_bits, mul}
use Rattle.field.proofs.Table.{both, both_left, both_right, all, below}
use Rattle.linear.specs.Sets.{insert, count}
use Rattle.linear.specs.Sums.{sum_to, put}
use Rattle.linear.specs.Combinations.{Combo}
use Rattle.linear.specs.Blocks.{dot}
use Rattle.linear.specs.Solved.{vec}
use Rattle.linear.proofs.Combinations.{combo_cong}
use Rattle.linear.proofs.Agreement.{combo_agree, plan_agree}
use Rattle.note.specs.Tree.{over, over_in, notes_in, datas, datas_in, redundants, redundants_in, size, size_in, groups_of, groups_in, layout_of}
use Rattle.marks.specs.Marks.{marked, with_mark}
use Rattle.rows.specs.Rows.{among, owns, home_below, home, inside, part, row_number, row, holds}
use Rattle.visits.specs.Visits.{meet_below, step, at_step, visits_below, visits}
use Rattle.calls.specs.Code.{alive}
use Rattle.worked.specs.Depot.{depot}
use Rattle.worked.specs.Plans.{Term, ◌times◌, Says, by, nothing, Case, cases, code, marks_of, lost_set, Right, Each, end, also}
use Rattle.worked.proofs.Rows.{depot_coefs}
use Rattle.worked.proofs.Certificates.{term_sum, makes, tells, Reason, kept, passed, place_after, plans, combo_by_terms, none_by_data, plan_by_terms}

-- ---- the tests

-- the rows of the depot pair as a table
unfoldable table : List ℕ
table =
    1 ∷ 0 ∷ 0 ∷ 0
    ∷ 0 ∷ 1 ∷ 0 ∷ 0
    ∷ 0 ∷ 0 ∷ 1 ∷ 0
    ∷ 0 ∷ 0 ∷ 0 ∷ 1
    ∷ 27 ∷ 84 ∷ 161 ∷ 29
    ∷ 84 ∷ 27 ∷ 0 ∷ 0
    ∷ 0 ∷ 0 ∷ 29 ∷ 161
    ∷ []

abbrev entry : ℕ → ℕ → ℕ
entry b i = get_or table (b * 4 + i) 0

table_test : T (all (λ b. all (λ i. eqb (row depot b i) (entry b i)) 4) 7)
unfolding table row part inside row_number home home_below owns among put depot layout_of groups_of groups_in datas datas_in redundants redundants_in size size_in notes_in over over_in
table_test = rw (depot_coefs.0, depot_coefs.1, depot_coefs.2, depot_coefs.3, depot_coefs.4, depot_coefs.5, depot_coefs.6, depot_coefs.7) tt

table_right : (b i : ℕ) → b < 7 → i < 4 → row depot b i ≡ entry b i
table_right b i h k =
    eqb→eq (row depot b i) (entry b i)
    (below (λ i. eqb (row depot b i) (entry b i)) 4 (below (λ b. all (λ i. eqb (row depot b i) (entry b i)) 4) 7 table_test b h) i k)

-- the survivors
abbrev left : List ℕ → ℕ → Bool
left lost s = not (lost_set lost s)

-- on what grounds: a plan's by the visiting order and a reason for each survivor in it; none by data that tell the block from the survivors
data Grounds : Type 0 where
  choice : List ℕ → List Reason → Grounds
  apart : List ℕ → Grounds

-- the order is that of the visits of block b, m of them
abbrev ordered : List ℕ → ℕ → List ℕ → ℕ → Bool
ordered lost b order m =
    both (eqb (alive code (lost_set lost)) m)
    (all (λ p. both (ltb (vec order p) 7) (eqb (get_or (visits depot (lost_set lost) b) p 0) (vec order p))) m)

-- the grounds hold
abbrev grounded : List ℕ → ℕ → Says → Grounds → Bool
grounded lost b (by l) (choice order reasons) =
    both (ordered lost b order (place_after 7 4 entry (vec order) 0 reasons))
    (both (makes 7 4 entry (left lost) (entry b) l) (plans 7 4 entry (vec order) reasons (entry b) l))
grounded lost b (by l) (apart d) = false
grounded lost b nothing (choice order reasons) = false
grounded lost b nothing (apart d) = tells 7 4 entry (left lost) (entry b) d

-- of each case, the one after the other
abbrev all_grounded : List Case → List Grounds → Bool
all_grounded [] gs = true
all_grounded (c ∷ cs) [] = false
all_grounded (c ∷ cs) (g ∷ gs) = both (both (ltb c.block 7) (grounded c.lost c.block c.says g)) (all_grounded cs gs)

module _ (lost : List ℕ) (b : ℕ) (h : b < 7) where
  -- combinations of the rows are combinations of the table's
  to_rows : Combo 7 4 entry (left lost) (entry b) → Combo 7 4 (row depot) (left lost) (row depot b)
  to_rows x = combo_cong 7 4 (row depot) (λ i k. table_right b i h k) (combo_agree 7 4 table_right x)

  to_table : Combo 7 4 (row depot) (left lost) (row depot b) → Combo 7 4 entry (left lost) (entry b)
  to_table x = combo_cong 7 4 entry (λ i k. sym (table_right b i h k)) (combo_agree 7 4 (λ s i l k. sym (table_right s i l k)) x)

  module _ (l : List Term) (order : List ℕ) (reasons : List Reason) where
    m : ℕ
    m = place_after 7 4 entry (vec order) 0 reasons

    abbrev place : ℕ → Bool
    place p = both (ltb (vec order p) 7) (eqb (get_or (visits depot (lost_set lost) b) p 0) (vec order p))

    right_plan : T (ordered lost b order (place_after 7 4 entry (vec order) 0 reasons)) → T (makes 7 4 entry (left lost) (entry b) l)
        → T (plans 7 4 entry (vec order) reasons (entry b) l) → Right lost b (by l)
    unfolding m depot layout_of datas redundants over over_in
    right_plan o made planned = (
      to_rows (combo_by_terms 7 4 entry (left lost) (entry b) l made),
      rw many
          (plan_agree 7 4 table_right {order = vec order}
          (λ p k. ltb→lt (vec order p) 7 (both_left (ltb (vec order p) 7) _ (at p k)))
          (λ p k. eqb→eq (get_or (visits depot (lost_set lost) b) p 0) (vec order p) (both_right (ltb (vec order p) 7) _ (at p k)))
          (λ i k. table_right b i h k)
          (plan_by_terms 7 4 entry (vec order) reasons (entry b) l planned)),
    )
      where
        many : alive code (lost_set lost) ≡ m
        many = eqb→eq (alive code (lost_set lost)) m (both_left (eqb (alive code (lost_set lost)) m) (all place m) o)

        at : (p : ℕ) → p < m → T (place p)
        at = below place m (both_right (eqb (alive code (lost_set lost)) m) (all place m) o)

  right : (s : Says) (g : Grounds) → T (grounded lost b s g) → Right lost b s
  unfolding depot layout_of datas redundants over over_in
  right (by l) (choice order reasons) o =
      let x = both_right (ordered lost b order (place_after 7 4 entry (vec order) 0 reasons)) _ o in
      right_plan l order reasons (both_left (ordered lost b order (place_after 7 4 entry (vec order) 0 reasons)) _ o)
      (both_left (makes 7 4 entry (left lost) (entry b) l) _ x)
      (both_right (makes 7 4 entry (left lost) (entry b) l) _ x)
  right (by l) (apart d) o = absurd o
  right nothing (choice order reasons) o = absurd o
  right nothing (apart d) o = λ y. none_by_data 7 4 entry (left lost) (entry b) d o (to_table y)

each_right : (cs : List Case) (gs : List Grounds) → T (all_grounded cs gs) → Each (λ (c : Case). Right c.lost c.block c.says) cs
each_right [] gs o = end
each_right (c ∷ cs) [] o = absurd o
each_right (c ∷ cs) (g ∷ gs) o =
    let x = both_left (both (ltb c.block 7) (grounded c.lost c.block c.says g)) (all_grounded cs gs) o in
    also
    (right c.lost c.block (ltb→lt c.block 7 (both_left (ltb c.block 7) _ x)) c.says g (both_right (ltb c.block 7) _ x))
    (each_right cs gs (both_right (both (ltb c.block 7) (grounded c.lost c.block c.says g)) (all_grounded cs gs) o))

-- the grounds of the cases, in their order
abbrev grounds : List Grounds
grounds =
    choice (1 ∷ 5 ∷ 2 ∷ 3 ∷ 4 ∷ 6 ∷ []) (kept (0 ∷ 1 ∷ []) ∷ kept (1 ∷ []) ∷ kept (0 ∷ 0 ∷ 1 ∷ []) ∷ kept (0 ∷ 0 ∷ 0 ∷ 1 ∷ []) ∷ passed (23 times 1 ∷ 161 times 2 ∷ 29 times 3 ∷ 26 times 5 ∷ []) ∷ passed (29 times 2 ∷ 161 times 3 ∷ []) ∷ [])
    ∷ choice (5 ∷ 2 ∷ 3 ∷ 4 ∷ 6 ∷ []) (kept (1 ∷ []) ∷ kept (0 ∷ 0 ∷ 1 ∷ []) ∷ kept (0 ∷ 0 ∷ 0 ∷ 1 ∷ []) ∷ kept (26 ∷ 1 ∷ []) ∷ passed (29 times 2 ∷ 161 times 3 ∷ []) ∷ [])
    ∷ choice (5 ∷ 2 ∷ 3 ∷ 4 ∷ 6 ∷ []) (kept (1 ∷ []) ∷ kept (0 ∷ 0 ∷ 1 ∷ []) ∷ kept (0 ∷ 0 ∷ 0 ∷ 1 ∷ []) ∷ kept (26 ∷ 1 ∷ []) ∷ passed (29 times 2 ∷ 161 times 3 ∷ []) ∷ [])
    ∷ choice (5 ∷ 3 ∷ 4 ∷ 6 ∷ []) (kept (1 ∷ []) ∷ kept (0 ∷ 0 ∷ 0 ∷ 1 ∷ []) ∷ kept (26 ∷ 1 ∷ []) ∷ kept (53 ∷ 87 ∷ 1 ∷ []) ∷ [])
    ∷ choice (5 ∷ 3 ∷ 4 ∷ 6 ∷ []) (kept (1 ∷ []) ∷ kept (0 ∷ 0 ∷ 0 ∷ 1 ∷ []) ∷ kept (26 ∷ 1 ∷ []) ∷ kept (53 ∷ 87 ∷ 1 ∷ []) ∷ [])
    ∷ choice (3 ∷ 6 ∷ 4 ∷ 5 ∷ []) (kept (0 ∷ 0 ∷ 0 ∷ 1 ∷ []) ∷ kept (0 ∷ 0 ∷ 1 ∷ []) ∷ kept (1 ∷ []) ∷ kept (85 ∷ 1 ∷ []) ∷ [])
    ∷ choice (1 ∷ 5 ∷ 3 ∷ 6 ∷ []) (kept (0 ∷ 1 ∷ []) ∷ kept (1 ∷ []) ∷ kept (0 ∷ 0 ∷ 0 ∷ 1 ∷ []) ∷ kept (0 ∷ 0 ∷ 1 ∷ []) ∷ [])
    ∷ choice (3 ∷ 6 ∷ 1 ∷ 5 ∷ []) (kept (0 ∷ 0 ∷ 0 ∷ 1 ∷ []) ∷ kept (0 ∷ 0 ∷ 1 ∷ []) ∷ kept (0 ∷ 1 ∷ []) ∷ kept (1 ∷ []) ∷ [])
    ∷ choice (1 ∷ 3 ∷ 5 ∷ 6 ∷ []) (kept (0 ∷ 1 ∷ []) ∷ kept (0 ∷ 0 ∷ 0 ∷ 1 ∷ []) ∷ kept (1 ∷ []) ∷ kept (0 ∷ 0 ∷ 1 ∷ []) ∷ [])
    ∷ apart (85 ∷ 1 ∷ [])
    ∷ apart (85 ∷ 1 ∷ [])
    ∷ apart (85 ∷ 1 ∷ [])
    ∷ apart (85 ∷ 1 ∷ [])
    ∷ apart (85 ∷ 1 ∷ [])
    ∷ apart (85 ∷ 1 ∷ [])
    ∷ choice (2 ∷ 3 ∷ 4 ∷ []) (kept (0 ∷ 0 ∷ 1 ∷ []) ∷ kept (0 ∷ 0 ∷ 0 ∷ 1 ∷ []) ∷ kept (1 ∷ []) ∷ [])
    ∷ []

-- each data block lost alone, of which the price sheet sums the reads
abbrev pub lone : List Case
lone =
    record { lost = 0 ∷ []; block = 0; says = by (26 times 1 ∷ 129 times 5 ∷ []) }
    ∷ record { lost = 1 ∷ []; block = 1; says = by (85 times 0 ∷ 128 times 5 ∷ []) }
    ∷ record { lost = 2 ∷ []; block = 2; says = by (160 times 3 ∷ 131 times 6 ∷ []) }
    ∷ record { lost = 3 ∷ []; block = 3; says = by (28 times 2 ∷ 130 times 6 ∷ []) }
    ∷ []

abbrev lone_grounds : List Grounds
lone_grounds =
    choice (1 ∷ 5 ∷ 2 ∷ 3 ∷ 4 ∷ 6 ∷ []) (kept (0 ∷ 1 ∷ []) ∷ kept (1 ∷ []) ∷ kept (0 ∷ 0 ∷ 1 ∷ []) ∷ kept (0 ∷ 0 ∷ 0 ∷ 1 ∷ []) ∷ passed (23 times 1 ∷ 161 times 2 ∷ 29 times 3 ∷ 26 times 5 ∷ []) ∷ passed (29 times 2 ∷ 161 times 3 ∷ []) ∷ [])
    ∷ choice (0 ∷ 5 ∷ 2 ∷ 3 ∷ 4 ∷ 6 ∷ []) (kept (1 ∷ []) ∷ kept (0 ∷ 1 ∷ []) ∷ kept (0 ∷ 0 ∷ 1 ∷ []) ∷ kept (0 ∷ 0 ∷ 0 ∷ 1 ∷ []) ∷ passed (143 times 0 ∷ 161 times 2 ∷ 29 times 3 ∷ 85 times 5 ∷ []) ∷ passed (29 times 2 ∷ 161 times 3 ∷ []) ∷ [])
    ∷ choice (3 ∷ 6 ∷ 0 ∷ 1 ∷ 4 ∷ 5 ∷ []) (kept (0 ∷ 0 ∷ 0 ∷ 1 ∷ []) ∷ kept (0 ∷ 0 ∷ 1 ∷ []) ∷ kept (1 ∷ []) ∷ kept (0 ∷ 1 ∷ []) ∷ passed (27 times 0 ∷ 84 times 1 ∷ 218 times 3 ∷ 160 times 6 ∷ []) ∷ passed (84 times 0 ∷ 27 times 1 ∷ []) ∷ [])
    ∷ choice (2 ∷ 6 ∷ 0 ∷ 1 ∷ 4 ∷ 5 ∷ []) (kept (0 ∷ 0 ∷ 1 ∷ []) ∷ kept (0 ∷ 0 ∷ 0 ∷ 1 ∷ []) ∷ kept (1 ∷ []) ∷ kept (0 ∷ 1 ∷ []) ∷ passed (27 times 0 ∷ 84 times 1 ∷ 240 times 2 ∷ 28 times 6 ∷ []) ∷ passed (84 times 0 ∷ 27 times 1 ∷ []) ∷ [])
    ∷ []

-- EVERY CASE IS RIGHT
pub cases_right : Each (λ (c : Case). Right c.lost c.block c.says) cases
unfolding table term_sum dot sum_to insert count marks_of with_mark marked put mul mul_bits double ◌⊕◌ visits visits_below at_step step meet_below holds home home_below owns among depot layout_of groups_of groups_in datas datas_in redundants redundants_in size size_in notes_in over over_in
cases_right = each_right cases grounds tt

pub lone_right : Each (λ (c : Case). Right c.lost c.block c.says) lone
unfolding table term_sum dot sum_to insert count marks_of with_mark marked put mul mul_bits double ◌⊕◌ visits visits_below at_step step meet_below holds home home_below owns among depot layout_of groups_of groups_in datas datas_in redundants redundants_in size size_in notes_in over over_in
lone_right = each_right lone lone_grounds tt
