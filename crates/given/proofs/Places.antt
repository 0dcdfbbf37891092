-- Proved: where the groups of a list stand, if they are numbered from given places on: for a branch and the groups inside it, and for lists that
-- stand one after another.
use Prim.Native.Nat.{ℕ, zero, suc, ◌+◌, ◌-◌, ◌≤◌, ◌<◌}
use mathlib.Core.Path.{◌≡◌, refl, sym, ◌∙◌, ap, subst}
use mathlib.Core.List.{List, [], ◌∷◌, ◌++◌}
use native.Mathlib.Omega.{arith}
use native.Mathlib.Nat.{suc-add, zero-add}
use native.Mathlib.Decide.{dec_lt}
use lib.ListN.{length, get_or, length-append, get_or-append}
use lib.Seq.{get_or-append-add}
use Rattle.groups.specs.declared.Group.{Group}
use Rattle.groups.specs.Groups.{if_lt, no_group}
use Rattle.given.specs.Facts.{sum_of, rows_round}
use Rattle.groups.proofs.Picks.{lt_yes, lt_no}

abbrev pub size_at : List Group → ℕ → ℕ
size_at gs x = (get_or gs x no_group).size

-- ---- sums over a part

module _ (f : Group → ℕ) where
  pub sum_front : (gs hs : List Group) (n : ℕ) → n ≤ length gs → sum_of f (gs ++ hs) n ≡ sum_of f gs n
  unfolding sum_of
  sum_front gs hs zero h = refl
  sum_front [] hs (suc n) h = absurd (omega arith)
  sum_front (g ∷ gs) hs (suc n) h = ap (λ (m : ℕ). f g + m) (sum_front gs hs n (omega arith))

  pub sum_behind : (gs hs : List Group) (n : ℕ) → sum_of f (gs ++ hs) (length gs + n) ≡ sum_of f gs (length gs) + sum_of f hs n
  unfolding sum_of
  sum_behind [] hs n = rw (zero-add n) (omega arith)
  sum_behind (g ∷ gs) hs n = rw (suc-add (length gs) n) (let e = sum_behind gs hs n in omega arith)

pub round_front : (gs hs : List Group) (x : ℕ) → x ≤ length gs → rows_round (gs ++ hs) x ≡ rows_round gs x
unfolding rows_round
round_front gs hs zero h = refl
round_front [] hs (suc x) h = absurd (omega arith)
round_front (g ∷ gs) hs (suc x) h = ap (λ (m : ℕ). if_lt (suc x) g.size g.h 0 + m) (round_front gs hs x (omega arith))

-- groups that end before x are not round it
round_behind : (gs hs : List Group) (y : ℕ) → ((x : ℕ) → x < length gs → x + size_at gs x ≤ length gs) →
    rows_round (gs ++ hs) (length gs + y) ≡ rows_round hs y
unfolding rows_round
round_behind [] hs y e = rw (zero-add y)
round_behind (g ∷ gs) hs y e =
    let z : 0 ≡ if_lt (suc (length gs + y)) g.size g.h 0 = lt_no _ (let h = e 0 (omega arith) in omega arith) refl in
    let r = round_behind gs hs y (λ x h. let k = e (suc x) (omega arith) in omega arith) in
    rw (suc-add (length gs) y, ← z) (omega arith)

-- ---- the places of a list of groups

-- of the group g, which is the group x of gs: `row` rows stand round them all, `start` data blocks and `past` redundant blocks come before, and
-- the rows end by `most`
pub record Place (row start past most : ℕ) (gs : List Group) (x : ℕ) (g : Group) : Type 0 where
  pub first : g.first ≡ start + sum_of (λ g. g.d) gs x
  pub last : g.first + g.count ≡ start + sum_of (λ g. g.d) gs (x + g.size)
  pub redundant : g.redundant ≡ past + sum_of (λ g. g.h) gs x
  pub begins : g.row ≡ row + rows_round gs x
  pub path : g.row + g.h ≤ most
  pub inner : x + g.size ≤ length gs
  pub itself : 0 < g.size
  pub nested : (y : ℕ) → x ≤ y → y < x + g.size → y + size_at gs y ≤ x + g.size
  pub leaf : 0 < g.d → (g.size ≡ 1) × (g.count ≡ g.d)
  pub branch : g.d ≡ 0 → suc x + size_at gs (suc x) < x + g.size

abbrev pub Places : ℕ → ℕ → ℕ → ℕ → List Group → Type 0
Places row start past most gs = (x : ℕ) → x < length gs → Place row start past most gs x (get_or gs x no_group)

-- a branch and the groups inside it
module _ (row start past most : ℕ) (g : Group) (gs : List Group) where
  pub places_branch : g.d ≡ 0 → g.row ≡ row → g.first ≡ start → g.redundant ≡ past → g.size ≡ 1 + length gs → size_at gs 0 < length gs →
      g.count ≡ sum_of (λ g. g.d) gs (length gs) → row + g.h ≤ most → Places (row + g.h) start (past + g.h) most gs → Places row start past most (g ∷ gs)
  unfolding sum_of rows_round
  places_branch d r f p s short c m e zero h =
      let total : sum_of (λ g. g.d) (g ∷ gs) (0 + g.size) ≡ g.d + sum_of (λ g. g.d) gs (length gs) =
      ap (sum_of (λ g. g.d) (g ∷ gs)) (let q : 0 + g.size ≡ suc (length gs) = omega arith in q) in
      record {
        first = omega arith;
        last = omega arith;
        redundant = omega arith;
        begins = omega arith;
        path = omega arith;
        inner = omega arith;
        itself = omega arith;
        nested = inside;
        leaf = λ z. absurd (omega arith);
        branch = λ z. omega arith;
      }
    where
      inside : (y : ℕ) → 0 ≤ y → y < 0 + g.size → y + size_at (g ∷ gs) y ≤ 0 + g.size
      inside zero a b = omega arith
      inside (suc y) a b = let q = (e y (omega arith)).inner in omega arith
  places_branch d r f p s short c m e (suc x) h =
      let q = e x (omega arith) in
      let round : 0 + g.h ≡ 0 + if_lt (suc x) g.size g.h 0 = ap (λ (n : ℕ). 0 + n) (lt_yes _ (omega arith) refl) in
      let shift = suc-add x (size_at gs x) in
      record {
        first = omega (arith, q.first);
        last = rw shift (omega (arith, q.last));
        redundant = omega (arith, q.redundant);
        begins = omega (arith, q.begins);
        path = q.path;
        inner = omega (arith, q.inner);
        itself = q.itself;
        nested = inside;
        leaf = q.leaf;
        branch = λ z. let k = q.branch z in omega arith;
      }
    where
      inside : (y : ℕ) → suc x ≤ y → y < suc x + size_at gs x → y + size_at (g ∷ gs) y ≤ suc x + size_at gs x
      inside zero a b = absurd (omega arith)
      inside (suc y) a b = let q = (e x (omega arith)).nested y (omega arith) (omega arith) in omega arith

-- lists that stand one after another
module _ (row start past most : ℕ) (gs hs : List Group) (d r : ℕ) (D : sum_of (λ g. g.d) gs (length gs) ≡ d) (H : sum_of (λ g. g.h) gs (length gs) ≡ r)
    (e : Places row start past most gs) (f : Places row (start + d) (past + r) most hs) where
  ends : (x : ℕ) → x < length gs → x + size_at gs x ≤ length gs
  ends x h = (e x h).inner

  places_front : (x : ℕ) → x < length gs → Place row start past most (gs ++ hs) x (get_or (gs ++ hs) x no_group)
  places_front x h =
      let q = e x h in
      let n = length-append gs hs in
      rw (get_or-append gs hs no_group x h)
      (record {
        first = q.first ∙ ap (λ (m : ℕ). start + m) (sym (sum_front (λ g. g.d) gs hs x (omega arith)));
        last = q.last ∙ ap (λ (m : ℕ). start + m) (sym (sum_front (λ g. g.d) gs hs (x + size_at gs x) q.inner));
        redundant = q.redundant ∙ ap (λ (m : ℕ). past + m) (sym (sum_front (λ g. g.h) gs hs x (omega arith)));
        begins = q.begins ∙ ap (λ (m : ℕ). row + m) (sym (round_front gs hs x (omega arith)));
        path = q.path;
        inner = omega (arith, q.inner);
        itself = q.itself;
        nested = λ y a b.
            let k = q.nested y a b in
            let z = q.inner in
            let m : size_at (gs ++ hs) y ≡ size_at gs y = ap (λ (x : Group). x.size) (get_or-append gs hs no_group y (omega arith)) in
            omega arith;
        leaf = q.leaf;
        branch = λ z.
            let k = q.branch z in
            let i = q.inner in
            let m : size_at (gs ++ hs) (suc x) ≡ size_at gs (suc x) =
            ap (λ (x : Group). x.size) (get_or-append gs hs no_group (suc x) (omega arith)) in
            omega arith;
      })

  places_behind : (y : ℕ) → y < length hs → Place row start past most (gs ++ hs) (length gs + y) (get_or (gs ++ hs) (length gs + y) no_group)
  places_behind y h =
      let q = f y h in
      let n = length-append gs hs in
      let g = get_or hs y no_group in
      let s0 = sum_behind (λ g. g.d) gs hs y in
      let s1 = sum_behind (λ g. g.d) gs hs (y + g.size) in
      let s2 = sum_behind (λ g. g.h) gs hs y in
      let s3 = round_behind gs hs y ends in
      let a : length gs + y + g.size ≡ length gs + (y + g.size) = omega arith in
      rw (get_or-append-add gs hs y no_group)
      (record {
        first = omega (arith, q.first, D);
        last = rw a (omega (arith, q.last, D));
        redundant = omega (arith, q.redundant, H);
        begins = omega (arith, q.begins);
        path = q.path;
        inner = omega (arith, q.inner);
        itself = q.itself;
        nested = λ z b c.
            let i : z ≡ length gs + (z - length gs) = omega arith in
            let k = q.nested (z - length gs) (omega arith) (omega arith) in
            let m : size_at (gs ++ hs) z ≡ size_at hs (z - length gs) =
            ap (size_at (gs ++ hs)) i ∙ ap (λ (x : Group). x.size) (get_or-append-add gs hs (z - length gs) no_group) in
            omega arith;
        leaf = q.leaf;
        branch = λ z.
            let k = q.branch z in
            let i : suc (length gs + y) ≡ length gs + suc y = omega arith in
            let m : size_at (gs ++ hs) (suc (length gs + y)) ≡ size_at hs (suc y) =
            ap (size_at (gs ++ hs)) i ∙ ap (λ (x : Group). x.size) (get_or-append-add gs hs (suc y) no_group) in
            omega arith;
      })

  pub places_append : Places row start past most (gs ++ hs)
  places_append x h = cases (dec_lt x (length gs))
    where
      cases : Dec (x < length gs) → Place row start past most (gs ++ hs) x (get_or (gs ++ hs) x no_group)
      cases (yes k) = places_front x k
      cases (no k) =
          let i : length gs + (x - length gs) ≡ x = omega arith in
          subst (λ (z : ℕ). Place row start past most (gs ++ hs) z (get_or (gs ++ hs) z no_group)) i
          (places_behind (x - length gs) (omega (arith, length-append gs hs)))
