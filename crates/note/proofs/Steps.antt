-- Proved: one step of the code's reading, from what it calls. Each law is an equation of proofs/Equations, read from the code's side.
use Prim.Native.Nat.{ℕ, ◌+◌, ◌≤◌, ◌<◌}
use mathlib.Core.Path.{◌≡◌, refl, sym, ◌∙◌, ap}
use mathlib.Core.List.{List}
use native.Mathlib.Omega.{arith}
use lib.ListN.{length}
use Rattle.note.specs.Note.Head.{Branch}
use Rattle.groups.specs.declared.Walk.{Walk}
use Rattle.groups.specs.declared.Stopped.{Stopped}
use Rattle.groups.specs.declared.State.{State}
use Rattle.groups.specs.Groups.{number, walking, stopped, entered, at_start}
use Rattle.note.specs.Note.{head_at, next, group_read, members_read, finish, read_note}
use Rattle.note.specs.Note.Outcome.{layout, refusal}
use Rattle.groups.specs.Inner.{Sound}
use Rattle.groups.proofs.Picks.{lt_yes, lt_no, eq_yes, eq_no}
use Rattle.groups.proofs.Totals.{room, number_some}
use Rattle.note.proofs.Equations.{next_stop, next_go, Moved, members_in, group_branch, group_goes, members_more}

-- the state with one group more
pub record Grew (level rows h step : ℕ) (w u : State) : Type 0 where
  pub sound : Sound u.lay
  pub at : u.at ≡ w.at + step
  pub more : u.lay.groups ≡ w.lay.groups + 1
  pub deep : level ≤ 4
  pub few : rows + h ≤ 16

pub entered_grew : (level rows h d len step : ℕ) (w : State) (u : Walk) → walking u ≡ entered level rows h d len step w → Grew level rows h step w (walking u)
entered_grew level rows h d len step w u e =
    let q = room level rows h d len step w (rw (← e) refl) in rw (e ∙ q.1) (omega (arith, q.0))

module _ (s : List ℕ) (end level rows : ℕ) (w : State) where
  pub branch_stops : {h len : ℕ} (e : Stopped) → head_at s w.at end ≡ Branch h len → stopped e ≡ entered level rows h 0 len 5 w →
      stopped e ≡ group_read s end level rows w
  branch_stops {h} {len} e p q =
      let go = members_in s end level rows w h len in
      sym (next_stop (stopped e) go (number_some e.fault)) ∙ ap (λ (u : State). next u go) q ∙ sym (group_branch s end level rows w p)

  pub branch_goes : {h len : ℕ} (u : Walk) (v : State) → head_at s w.at end ≡ Branch h len → walking u ≡ entered level rows h 0 len 5 w →
      v ≡ members_read s (w.at + 2 + len) (level + 1) (rows + h) w.lay.groups w.at 0 (walking u) → v ≡ group_read s end level rows w
  branch_goes {h} {len} u v p q r =
      let go = members_in s end level rows w h len in
      r ∙ sym (next_go (walking u) go refl) ∙ ap (λ (u : State). next u go) q ∙ sym (group_branch s end level rows w p)

  pub group_moves : (v : Walk) → walking v ≡ group_read s end level rows w → Moved end w (walking v)
  group_moves v e = rw e (group_goes s end level rows w (rw (← e) refl))

  module _ (own start count : ℕ) where
    pub member_stops : (e : Stopped) → (w.at ≡ end → ⊥) → stopped e ≡ group_read s end level rows w → stopped e ≡ members_read s end level rows own start count w
    member_stops e n p =
        let go = members_read s end level rows own start (count + 1) in
        sym (next_stop (stopped e) go (number_some e.fault)) ∙ ap (λ (u : State). next u go) p ∙ sym (members_more s end level rows w own start count n)

    pub member_goes : (u : Walk) (v : State) → (w.at ≡ end → ⊥) → walking u ≡ group_read s end level rows w →
        v ≡ members_read s end level rows own start (count + 1) (walking u) → v ≡ members_read s end level rows own start count w
    member_goes u v n p r =
        let go = members_read s end level rows own start (count + 1) in
        r ∙ sym (next_go (walking u) go refl) ∙ ap (λ (u : State). next u go) p ∙ sym (members_more s end level rows w own start count n)

-- ---- the end of a note

-- a walk that is stopped refuses it
pub note_stops : (size : ℕ) (e : Stopped) → refusal (number e.fault) e.walk.at ≡ finish size (stopped e)
note_stops size e = eq_no _ (number_some e.fault) refl

-- bytes after the top record do, and else the layout is read
pub note_extra : (size : ℕ) (w : Walk) → w.at < size → refusal 4 w.at ≡ finish size (walking w)
note_extra size w h = eq_yes _ refl (lt_yes _ h refl)

pub note_ends : (size : ℕ) (w : Walk) → size ≤ w.at → layout w.lay ≡ finish size (walking w)
note_ends size w h = eq_yes _ refl (lt_no _ h refl)

-- the whole note, from its top group
pub note_is : (s : List ℕ) (v : State) → v ≡ group_read s (length s) 1 0 at_start → finish (length s) v ≡ read_note s
unfolding read_note
note_is s v p = ap (finish (length s)) p
