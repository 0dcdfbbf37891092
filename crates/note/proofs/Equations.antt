-- Proved: the equations that a reader expects of `group_read` and `members_read`: a bad head, a leaf, a branch; a branch's end with fewer than two
-- members and with two or more, and a member before the end. Any count that is large enough gives the same reading; nothing after this file
-- looks at the count.
use Prim.Native.Nat.{ℕ, zero, suc, ◌+◌, ◌-◌, ◌*◌, ◌≤◌, ◌<◌}
use mathlib.Core.Path.{◌≡◌, refl, sym, ◌∙◌, ap}
use mathlib.Core.Bool.{Bool, true, false, cond}
use mathlib.Core.List.{List}
use native.Mathlib.Omega.{arith}
use native.Mathlib.Numerals.{add-one}
use lib.Dec.{eqb}
use borrow.Author.Tests.{eqb-true, eqb-false, eq-eqb, ne_eqb}
use Rattle.note.specs.Note.Head.{Bad, Leaf, Branch}
use Rattle.groups.specs.declared.State.{State}
use Rattle.groups.specs.Groups.{if_eq, refused_at, entered, closed}
use Rattle.note.specs.Note.{Head, head_at, by_head, go_on, next, group_of, members_of, group_read, members_read}
use Rattle.groups.specs.Inner.{Sound}
use Rattle.groups.proofs.Picks.{lt_yes, lt_no, eq_yes, eq_no, by_lt, by_eq}
use Rattle.groups.proofs.Totals.{room}
use Rattle.note.proofs.Heads.{Says, says}

-- ---- going on

pub next_stop : (v : State) (go : State → State) → (v.fault ≡ 0 → ⊥) → next v go ≡ v
unfolding next
next_stop v go h = rw (ne_eqb v.fault 0 h)

pub next_go : (v : State) (go : State → State) → v.fault ≡ 0 → next v go ≡ go v
unfolding next
next_go v go h = rw (eq-eqb v.fault 0 h)

-- what holds of a state without a fault that is gone on to
pub next_holds : (P : State → Type 0) (v : State) (go : State → State) → (v.fault ≡ 0 → (go v).fault ≡ 0 → P (go v)) → (next v go).fault ≡ 0 → P (next v go)
unfolding next
next_holds P v go f = cases (eqb v.fault 0) refl
  where
    cases : (t : Bool) → eqb v.fault 0 ≡ t → (go_on t v go).fault ≡ 0 → P (go_on t v go)
    cases true e z = f (eqb-true v.fault 0 e) z
    cases false e z = absurd (eqb-false v.fault 0 e z)

next_same : (v : State) (go stay : State → State) → (v.fault ≡ 0 → go v ≡ stay v) → next v go ≡ next v stay
unfolding next
next_same v go stay f = cases (eqb v.fault 0) refl
  where
    cases : (t : Bool) → eqb v.fault 0 ≡ t → go_on t v go ≡ go_on t v stay
    cases true e = f (eqb-true v.fault 0 e)
    cases false e = refl

if_eq_same : (a b : ℕ) (x y z : State) → ((a ≡ b → ⊥) → y ≡ z) → if_eq a b x y ≡ if_eq a b x z
unfolding if_eq
if_eq_same a b x y z f = cases (eqb a b) refl
  where
    cases : (t : Bool) → eqb a b ≡ t → cond t x y ≡ cond t x z
    cases true e = refl
    cases false e = f (eqb-false a b e)

-- a group by its head, `members` reading what a branch holds
abbrev pub by_kind : ℕ → ℕ → State → (ℕ → ℕ → State → State) → Head → State
by_kind level rows w members hd =
    by_head hd (λ number. refused_at number w.at w) (λ h d. entered level rows h d 4 6 w)
    (λ h len. next (entered level rows h 0 len 5 w) (members h len))

-- ---- how far a reading goes

-- a group read without a fault: the reader has moved on, not past the end, and the totals are within the bounds
pub record Moved (end : ℕ) (w v : State) : Type 0 where
  pub on : w.at < v.at
  pub within : v.at ≤ end
  pub sound : Sound v.lay
  pub more : w.lay.groups < v.lay.groups

-- the members of a branch
record Ended (end : ℕ) (w v : State) : Type 0 where
  pub at : v.at ≡ end
  pub sound : Sound v.lay
  pub more : w.lay.groups ≤ v.lay.groups

kind_moved : (s : List ℕ) (end level rows : ℕ) (w : State) (members : ℕ → ℕ → State → State) →
    ((h len : ℕ) (u : State) → Sound u.lay → (members h len u).fault ≡ 0 → Ended (w.at + 2 + len) u (members h len u)) →
    (hd : Head) → Says s w.at end hd → (by_kind level rows w members hd).fault ≡ 0 → Moved end w (by_kind level rows w members hd)
kind_moved s end level rows w members rest (Bad number) p z = absurd (omega arith)
kind_moved s end level rows w members rest (Leaf h d) p z =
    let q = room level rows h d 4 6 w z in rw q.1 (omega (arith, p, q.0))
kind_moved s end level rows w members rest (Branch h len) p z =
    next_holds (Moved end w) (entered level rows h 0 len 5 w) (members h len)
    (λ a b.
    let q = room level rows h 0 len 5 w a in
    let u = entered level rows h 0 len 5 w in
    let g : u.lay.groups ≡ w.lay.groups + 1 = ap (λ (x : State). x.lay.groups) q.1 in
    let y : Sound u.lay = rw q.1 (omega (arith, q.0)) in
    let t = rest h len u y b in
    record { on = omega (arith, t.at); within = omega (arith, t.at, p); sound = t.sound; more = omega (arith, t.more, g) }) z

mutual
  unfolding group_of

  group_moved : (f : ℕ) (s : List ℕ) (end level rows : ℕ) (w : State) → (group_of f s end level rows w).fault ≡ 0 → Moved end w (group_of f s end level rows w)
  group_moved zero s end level rows w z = absurd (omega arith)
  group_moved (suc f) s end level rows w z =
      kind_moved s end level rows w
      (λ h len v. members_of f s (w.at + 2 + len) (level + 1) (rows + h) w.lay.groups w.at 0 v)
      (λ h len u y b. members_ended f s (w.at + 2 + len) (level + 1) (rows + h) w.lay.groups w.at 0 u y b)
      (head_at s w.at end) (says s w.at end) z

  members_ended : (f : ℕ) (s : List ℕ) (end level rows own start count : ℕ) (w : State) → Sound w.lay →
      (members_of f s end level rows own start count w).fault ≡ 0 → Ended end w (members_of f s end level rows own start count w)
  members_ended zero s end level rows own start count w y z = absurd (omega arith)
  members_ended (suc f) s end level rows own start count w y z =
      by_eq (λ (v : State). v.fault ≡ 0 → Ended end w v) w.at end
      (λ e. by_lt (λ (v : State). v.fault ≡ 0 → Ended end w v) count 2 {x = refused_at 3 start w} {y = closed own w}
      (λ l x. absurd (omega arith)) (λ l x. record { at = e; sound = omega (arith, y); more = omega arith }))
      (λ e. next_holds (Ended end w) (group_of f s end level rows w)
      (λ v. members_of f s end level rows own start (count + 1) v)
      (λ a b.
      let g = group_moved f s end level rows w a in
      let t = members_ended f s end level rows own start (count + 1) (group_of f s end level rows w) g.sound b in
      record { at = t.at; sound = t.sound; more = omega (arith, g.more, t.more) }))
      z

-- ---- the count does not matter

kind_same : (s : List ℕ) (end level rows : ℕ) (w : State) (members others : ℕ → ℕ → State → State) →
    ((h len : ℕ) (u : State) → Says s w.at end (Branch h len) → u.at ≡ w.at + 5 → members h len u ≡ others h len u) →
    (hd : Head) → Says s w.at end hd → by_kind level rows w members hd ≡ by_kind level rows w others hd
kind_same s end level rows w members others e (Bad number) p = refl
kind_same s end level rows w members others e (Leaf h d) p = refl
kind_same s end level rows w members others e (Branch h len) p =
    next_same (entered level rows h 0 len 5 w) (members h len) (others h len)
    (λ z. e h len (entered level rows h 0 len 5 w) p (ap (λ (x : State). x.at) (room level rows h 0 len 5 w z).1))

mutual
  unfolding group_of

  group_same : (f g : ℕ) (s : List ℕ) (end level rows : ℕ) (w : State) → 2 * (end - w.at) < f → 2 * (end - w.at) < g →
      group_of f s end level rows w ≡ group_of g s end level rows w
  group_same zero g s end level rows w a b = absurd (omega arith)
  group_same (suc f) zero s end level rows w a b = absurd (omega arith)
  group_same (suc f) (suc g) s end level rows w a b =
      kind_same s end level rows w
      (λ h len v. members_of f s (w.at + 2 + len) (level + 1) (rows + h) w.lay.groups w.at 0 v)
      (λ h len v. members_of g s (w.at + 2 + len) (level + 1) (rows + h) w.lay.groups w.at 0 v)
      (λ h len u p e. members_same f g s (w.at + 2 + len) (level + 1) (rows + h) w.lay.groups w.at 0 u (omega (arith, p, e)) (omega (arith, p, e)))
      (head_at s w.at end) (says s w.at end)

  members_same : (f g : ℕ) (s : List ℕ) (end level rows own start count : ℕ) (w : State) → 2 * (end - w.at) + 1 < f → 2 * (end - w.at) + 1 < g →
      members_of f s end level rows own start count w ≡ members_of g s end level rows own start count w
  members_same zero g s end level rows own start count w a b = absurd (omega arith)
  members_same (suc f) zero s end level rows own start count w a b = absurd (omega arith)
  members_same (suc f) (suc g) s end level rows own start count w a b =
      if_eq_same w.at end _ _ _
      (λ n. ap (λ (v : State). next v (λ v. members_of f s end level rows own start (count + 1) v)) (group_same f g s end level rows w (omega arith) (omega arith))
      ∙ next_same (group_of g s end level rows w) _ _
      (λ z.
      let m = group_moved g s end level rows w z in
      members_same f g s end level rows own start (count + 1) (group_of g s end level rows w) (omega (arith, m.on, m.within)) (omega (arith, m.on, m.within))))

-- ---- the equations

module _ (s : List ℕ) (end level rows : ℕ) (w : State) where
  -- what a branch holds: its members have one nesting more, h rows more round them, and end where the branch ends
  abbrev pub members_in : ℕ → ℕ → State → State
  members_in h len v = members_read s (w.at + 2 + len) (level + 1) (rows + h) w.lay.groups w.at 0 v

  pub group_by_kind : group_read s end level rows w ≡ by_kind level rows w members_in (head_at s w.at end)
  unfolding group_read members_read group_of
  group_by_kind =
      ap (λ (f : ℕ). group_of f s end level rows w) (add-one (2 * (end - w.at))) ∙
      kind_same s end level rows w _ _
      (λ h len u p e. members_same (2 * (end - w.at)) (2 * (w.at + 2 + len - u.at) + 2) s (w.at + 2 + len) (level + 1) (rows + h) w.lay.groups
      w.at 0 u (omega (arith, p, e)) (omega arith))
      (head_at s w.at end) (says s w.at end)

  -- a bad head: the refusal is at the record
  pub group_bad : {number : ℕ} → head_at s w.at end ≡ Bad number → group_read s end level rows w ≡ refused_at number w.at w
  group_bad e = group_by_kind ∙ ap (by_kind level rows w members_in) e

  -- a leaf is entered, if the running totals allow it
  pub group_leaf : {h d : ℕ} → head_at s w.at end ≡ Leaf h d → group_read s end level rows w ≡ entered level rows h d 4 6 w
  group_leaf e = group_by_kind ∙ ap (by_kind level rows w members_in) e

  -- a branch is entered, if the running totals allow it, and then its members are read
  pub group_branch : {h len : ℕ} → head_at s w.at end ≡ Branch h len →
      group_read s end level rows w ≡ next (entered level rows h 0 len 5 w) (members_in h len)
  group_branch e = group_by_kind ∙ ap (by_kind level rows w members_in) e

  -- a group read without a fault
  pub group_goes : (group_read s end level rows w).fault ≡ 0 → Moved end w (group_read s end level rows w)
  unfolding group_read
  group_goes z = group_moved (2 * (end - w.at) + 1) s end level rows w z

  module _ (own start count : ℕ) where
    one_more : 2 * (end - w.at) + 2 ≡ suc (2 * (end - w.at) + 1)
    one_more = omega arith

    -- the branch's end after fewer than two members: the refusal is at the branch
    pub members_few : w.at ≡ end → count < 2 → members_read s end level rows own start count w ≡ refused_at 3 start w
    unfolding members_read group_of
    members_few e l = ap (λ (f : ℕ). members_of f s end level rows own start count w) one_more ∙ sym (eq_yes _ e (lt_yes _ l refl))

    -- the branch's end after two or more members
    pub members_end : w.at ≡ end → 2 ≤ count → members_read s end level rows own start count w ≡ closed own w
    unfolding members_read group_of
    members_end e l = ap (λ (f : ℕ). members_of f s end level rows own start count w) one_more ∙ sym (eq_yes _ e (lt_no _ l refl))

    -- before the end: a member is read as a group, and then the rest
    pub members_more : (w.at ≡ end → ⊥) →
        members_read s end level rows own start count w ≡ next (group_read s end level rows w) (members_read s end level rows own start (count + 1))
    unfolding members_read group_read group_of
    members_more n =
        ap (λ (f : ℕ). members_of f s end level rows own start count w) one_more ∙ sym (eq_no _ n refl) ∙
        next_same (group_read s end level rows w) _ _
        (λ z.
        let m = group_goes z in
        members_same (2 * (end - w.at) + 1) (2 * (end - (group_read s end level rows w).at) + 2) s end level rows own start (count + 1)
        (group_read s end level rows w) (omega (arith, m.on, m.within)) (omega arith))
