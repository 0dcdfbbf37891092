-- Proved: a reading without a fault, taken apart: each group was a leaf or a branch for which there was room, and the members of each branch
-- were read one after another, two or more, to its end.
use Prim.Native.Nat.{ℕ, zero, suc, ◌+◌, ◌-◌, ◌*◌, ◌≤◌, ◌<◌}
use mathlib.Core.Path.{◌≡◌, ap}
use mathlib.Core.List.{List}
use native.Mathlib.Omega.{arith}
use native.Mathlib.Decide.{dec_lt, ℕ_discrete}
use Rattle.note.specs.Note.Head.{Bad, Leaf, Branch}
use Rattle.groups.specs.declared.State.{State}
use Rattle.groups.specs.Groups.{entered, grown, closed}
use Rattle.note.specs.Note.{Head, head_at, group_read, members_read}
use Rattle.groups.proofs.Totals.{Room, room}
use Rattle.note.proofs.Heads.{Says, says}
use Rattle.note.proofs.Equations.{by_kind, next_holds, members_in, group_by_kind, group_goes, members_few, members_end, members_more}

mutual
  -- a group is read from the state w to the state v
  pub data GroupRun (s : List ℕ) : ℕ → ℕ → ℕ → State → State → Type 0 where
    leaf_run : {end level rows : ℕ} {w v : State} (h d : ℕ) → Says s w.at end (Leaf h d) → Room level rows h d w.lay → v ≡ grown rows h d 4 6 w →
        GroupRun s end level rows w v
    branch_run : {end level rows : ℕ} {w v : State} (h len : ℕ) → Says s w.at end (Branch h len) → Room level rows h 0 w.lay →
        MembersRun s (w.at + 2 + len) (level + 1) (rows + h) w.lay.groups 0 (grown rows h 0 len 5 w) v → GroupRun s end level rows w v

  -- what is left of the branch `own` is read, after `count` members
  pub data MembersRun (s : List ℕ) : ℕ → ℕ → ℕ → ℕ → ℕ → State → State → Type 0 where
    end_run : {end level rows own count : ℕ} {w v : State} → w.at ≡ end → 2 ≤ count → v ≡ closed own w → MembersRun s end level rows own count w v
    more_run : {end level rows own count : ℕ} {w v : State} (u : State) → GroupRun s end level rows w u →
        MembersRun s end level rows own (count + 1) u v → MembersRun s end level rows own count w v

kind_run : (s : List ℕ) (end level rows : ℕ) (w : State) (members : ℕ → ℕ → State → State) →
    ((h len : ℕ) → Says s w.at end (Branch h len) → (members h len (grown rows h 0 len 5 w)).fault ≡ 0 →
    MembersRun s (w.at + 2 + len) (level + 1) (rows + h) w.lay.groups 0 (grown rows h 0 len 5 w) (members h len (grown rows h 0 len 5 w))) →
    (hd : Head) → Says s w.at end hd → (by_kind level rows w members hd).fault ≡ 0 → GroupRun s end level rows w (by_kind level rows w members hd)
kind_run s end level rows w members rest (Bad number) p z = absurd (omega arith)
kind_run s end level rows w members rest (Leaf h d) p z = let q = room level rows h d 4 6 w z in leaf_run h d p q.0 q.1
kind_run s end level rows w members rest (Branch h len) p z =
    next_holds (GroupRun s end level rows w) (entered level rows h 0 len 5 w) (members h len)
    (λ a b.
    let q = room level rows h 0 len 5 w a in
    rw q.1 (branch_run h len p q.0 (rest h len p (rw q.1 at b)))) z

three_not_zero : {f : ℕ} → f ≡ 3 → f ≡ 0 → ⊥
three_not_zero p q = omega arith

mutual
  -- by induction over a bound n of the bytes left
  group_run_below : (n : ℕ) (s : List ℕ) (end level rows : ℕ) (w : State) → 2 * (end - w.at) < n → (group_read s end level rows w).fault ≡ 0 →
      GroupRun s end level rows w (group_read s end level rows w)
  group_run_below zero s end level rows w b z = absurd (omega arith)
  group_run_below (suc n) s end level rows w b z =
      rw (group_by_kind s end level rows w)
      (kind_run s end level rows w (members_in s end level rows w)
      (λ h len p y. members_run_below n s (w.at + 2 + len) (level + 1) (rows + h) w.lay.groups w.at 0 (grown rows h 0 len 5 w) (omega (arith, p)) y)
      (head_at s w.at end) (says s w.at end) (rw (group_by_kind s end level rows w) at z))

  members_run_below : (n : ℕ) (s : List ℕ) (end level rows own start count : ℕ) (w : State) → 2 * (end - w.at) + 1 < n →
      (members_read s end level rows own start count w).fault ≡ 0 → MembersRun s end level rows own count w (members_read s end level rows own start count w)
  members_run_below zero s end level rows own start count w b z = absurd (omega arith)
  members_run_below (suc n) s end level rows own start count w b z =
      elim (ℕ_discrete w.at end) [
        | yes e ↦ elim (dec_lt count 2) [
          | yes l ↦ absurd (three_not_zero (ap (λ (v : State). v.fault) (members_few s end level rows w own start count e l)) z)
          | no l ↦ end_run {count = count} e (omega arith) (members_end s end level rows w own start count e (omega arith))
        ]
        | no e ↦
            rw (members_more s end level rows w own start count e)
            (next_holds (MembersRun s end level rows own count w) (group_read s end level rows w) (members_read s end level rows own start (count + 1))
            (λ a y.
            let m = group_goes s end level rows w a in
            more_run (group_read s end level rows w) (group_run_below n s end level rows w (omega arith) a)
            (members_run_below n s end level rows own start (count + 1) (group_read s end level rows w) (omega (arith, m.on, m.within)) y))
            (rw (members_more s end level rows w own start count e) at z))
      ]

pub group_run : (s : List ℕ) (end level rows : ℕ) (w : State) → (group_read s end level rows w).fault ≡ 0 →
    GroupRun s end level rows w (group_read s end level rows w)
group_run s end level rows w z = group_run_below (2 * (end - w.at) + 1) s end level rows w (omega arith) z
