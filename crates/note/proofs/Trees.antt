-- Proved: a note is read to a layout exactly if it is the note of a tree within the bounds, and the layout is then that tree's.
use Prim.Native.Nat.{ℕ, ◌+◌, ◌-◌, ◌≤◌}
use mathlib.Core.Path.{◌≡◌, refl, sym, ◌∙◌, ap}
use mathlib.Core.List.{List, [], ◌++◌, append-nil}
use native.Mathlib.Omega.{arith}
use native.Mathlib.Nat.{zero-add}
use lib.ListN.{length, drop, replicate, drop_of_length-le}
use lib.Seq.{sets, sets-eq}
use Rattle.std.proofs.lemmas.List.{drop-replicate}
use Rattle.groups.specs.declared.Group.{Group}
use Rattle.groups.specs.declared.Layout.{Layout}
use Rattle.groups.specs.declared.State.{State}
use Rattle.groups.specs.Groups.{no_group, at_start}
use Rattle.note.specs.Note.{Bytes, group_read, Outcome, finish, read_note}
use Rattle.note.specs.Note.Outcome.{layout, refusal}
use Rattle.note.specs.Tree.{Tree, note_of, datas, redundants, size, groups_of, layout_of, Within}
use Rattle.groups.proofs.Picks.{lt_no, eq_yes, by_lt, by_eq}
use Rattle.note.proofs.Runs.{group_run}
use Rattle.note.proofs.Advance.{after, groups_length}
use Rattle.note.proofs.Fits.{fits_within, within_fits}
use Rattle.note.proofs.Found.{group_found}
use Rattle.note.proofs.Readings.{tree_reads}

-- a reading that ends in a layout: no fault, the whole note, and the layout
finish_layout : (n : ℕ) (w : State) (l : Layout) → finish n w ≡ layout l → (w.fault ≡ 0) × (n ≤ w.at) × (w.lay ≡ l)
finish_layout n w l =
    by_eq P w.fault 0 (λ z. by_lt P w.at n (λ a e. absurd (never e)) (λ a e. (z, a, (cc)))) (λ z e. absurd (never e))
  where
    P : Outcome → Type 0
    P r = r ≡ layout l → (w.fault ≡ 0) × (n ≤ w.at) × (w.lay ≡ l)

    never : {a b : ℕ} → refusal a b ≡ layout l → ⊥
    never e = let z : ◌≡◌ {A = ℕ} 0 1 = cc in omega arith

-- the layout after a tree with which the note starts
layout_after : (t : Tree) → size t ≤ 16 → (after t 0 at_start).lay ≡ layout_of t
unfolding layout_of
layout_after t b =
    let n = groups_length t 0 0 0 in
    let gs = groups_of t 0 0 0 in
    let g : 0 + length gs ≡ size t = omega arith in
    let l : sets (replicate 16 no_group) 0 gs ≡ gs ++ replicate (16 - size t) no_group =
    sets-eq gs (replicate 16 no_group) 0 (omega arith) ∙ ap (λ (r : List Group). gs ++ r) (rw g (drop-replicate (size t) 16 no_group)) in
    let k : 0 + datas t ≡ datas t = zero-add (datas t) in
    let r : 0 + redundants t ≡ redundants t = zero-add (redundants t) in
    λ i. record { groups = g i; list = l i; k = k i; r = r i }

-- what is read is the note of a tree within the bounds, and its layout
pub read_tree : (s : List ℕ) (l : Layout) → Bytes s → read_note s ≡ layout l → (t : Tree) × Within t × (s ≡ note_of t) × (l ≡ layout_of t)
unfolding read_note
read_tree s l b e =
    let v = group_read s (length s) 1 0 at_start in
    let z = finish_layout (length s) v l e in
    let found = group_found s b (group_run s (length s) 1 0 at_start z.0) (omega arith) refl in
    let t = found.0 in
    let within = fits_within t found.1.fits in
    let rest : drop v.at s ≡ [] = drop_of_length-le s z.1 in (
      t,
      within,
      found.1.stands ∙ rw rest (append-nil (note_of t)),
      sym z.2 ∙ ap (λ (w : State). w.lay) found.1.is ∙ layout_after t within.groups,
    )

-- the note of a tree within the bounds is read, to the tree's layout
pub tree_read : (t : Tree) → Within t → read_note (note_of t) ≡ layout (layout_of t)
unfolding read_note
tree_read t b =
    let s = note_of t in
    let read = tree_reads t s (length s) 1 0 at_start [] (sym (append-nil s)) (omega arith) refl (within_fits t b) in
    ap (finish (length s)) read ∙ sym (eq_yes _ refl (lt_no _ (omega arith) (ap layout (sym (layout_after t b.groups)))))
