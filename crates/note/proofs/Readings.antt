-- Proved: where the note of a tree within the bounds stands, reading ends in the state after that tree, without a fault.
use Prim.Native.Nat.{ℕ, ◌+◌, ◌*◌, ◌/◌, ◌%◌, ◌≤◌, ◌<◌}
use mathlib.Core.Path.{◌≡◌, refl, sym, ◌∙◌, ap}
use mathlib.Core.List.{List, [], ◌∷◌, ◌++◌, append_assoc}
use native.Mathlib.Omega.{arith}
use native.Mathlib.Nat.{add-zero}
use lib.ListN.{length, drop, get_or, length-append, length-set}
use lib.Seq.{get_or-drop, drop-drop, drop-append_seam, length-sets}
use Rattle.note.specs.Note.Head.{Leaf, Branch}
use Rattle.groups.specs.declared.State.{State}
use Rattle.groups.specs.Groups.{entered, grown, closed}
use Rattle.note.specs.Note.{head_at, record_at, leaf_at, branch_at, next, group_read, members_read}
use Rattle.note.specs.Tree.{Tree, Members, over, leaf_record, branch_length, branch_record, note_of, notes_in, size, size_in, groups_of}
use Rattle.note.specs.Tree.Tree.{leaf, branch}
use Rattle.note.specs.Tree.Members.{pair, more}
use Rattle.groups.proofs.Picks.{lt_no, eq_yes, eq_no}
use Rattle.groups.proofs.Totals.{entered_is}
use Rattle.note.proofs.Equations.{next_go, members_in, group_leaf, group_branch, members_more, members_end}
use Rattle.note.proofs.Advance.{after, after_in, after_leaf, after_branch, after_pair, after_more}
use Rattle.note.proofs.Fits.{Fits, FitsIn, leaf_fits, branch_fits, pair_fits, more_fits, note_short, notes_short}

-- ---- bytes that stand at a place

byte : (s : List ℕ) (at i : ℕ) (l : List ℕ) → drop at s ≡ l → get_or s (at + i) 0 ≡ get_or l i 0
byte s at i l e = sym (get_or-drop at s i 0) ∙ ap (λ (x : List ℕ). get_or x i 0) e

first_byte : (s : List ℕ) (at : ℕ) (l : List ℕ) → drop at s ≡ l → get_or s at 0 ≡ get_or l 0 0
first_byte s at l e = ap (λ (i : ℕ). get_or s i 0) (sym (add-zero at)) ∙ byte s at 0 l e

-- what stands after them
behind : (s : List ℕ) (at : ℕ) (l rest : List ℕ) → drop at s ≡ l ++ rest → drop (at + length l) s ≡ rest
behind s at l rest e = sym (drop-drop (length l) at s) ∙ ap (drop (length l)) e ∙ drop-append_seam l rest

leaf_head : (s : List ℕ) (at end h d : ℕ) (rest : List ℕ) → drop at s ≡ leaf_record h d ++ rest → at + 6 ≤ end → 0 < d → head_at s at end ≡ Leaf h d
unfolding head_at record_at leaf_at
leaf_head s at end h d rest e n p =
    let b0 = first_byte s at (leaf_record h d ++ rest) e in
    let b1 = byte s at 1 (leaf_record h d ++ rest) e in
    let b2 = byte s at 2 (leaf_record h d ++ rest) e in
    let b3 = byte s at 3 (leaf_record h d ++ rest) e in
    let b4 = byte s at 4 (leaf_record h d ++ rest) e in
    let b5 = byte s at 5 (leaf_record h d ++ rest) e in
    sym
    (lt_no _ (omega arith) (lt_no _ (omega arith) (lt_no _ (omega arith) (eq_yes _ (omega arith)
    (eq_yes _ (omega arith) (eq_no _ (omega arith) (cc)))))))

branch_head : (s : List ℕ) (at end h : ℕ) (members rest : List ℕ) → drop at s ≡ branch_record h members ++ rest →
    at + 2 + branch_length members ≤ end → length members ≤ 96 → head_at s at end ≡ Branch h (branch_length members)
unfolding head_at record_at branch_at
branch_head s at end h members rest e n p =
    let b0 = first_byte s at (branch_record h members ++ rest) e in
    let b1 = byte s at 1 (branch_record h members ++ rest) e in
    let b2 = byte s at 2 (branch_record h members ++ rest) e in
    let b3 = byte s at 3 (branch_record h members ++ rest) e in
    let b4 = byte s at 4 (branch_record h members ++ rest) e in
    let none : branch_length members / 256 % 256 ≡ 0 = omega arith in
    let len : get_or s at 0 + 256 * get_or s (at + 1) 0 ≡ branch_length members = omega arith in
    sym
    (lt_no _ (omega arith) (lt_no _ (omega arith) (lt_no _ (omega arith) (eq_no _ (omega arith) (eq_yes _ (omega arith)
    (lt_no _ (omega arith) (cc)))))))

-- ---- one member

module _ (s : List ℕ) (end level row own start count : ℕ) (w : State) (t : Tree) where
  member_read : (w.at ≡ end → ⊥) → group_read s end level row w ≡ after t row w →
      members_read s end level row own start count w ≡ members_read s end level row own start (count + 1) (after t row w)
  member_read n e =
      let go = members_read s end level row own start (count + 1) in
      members_more s end level row w own start count n ∙ ap (λ (v : State). next v go) e ∙ next_go (after t row w) go refl

-- ---- trees

mutual
  unfolding note_of notes_in size size_in over

  pub tree_reads : (t : Tree) (s : List ℕ) (end level row : ℕ) (w : State) (rest : List ℕ) → drop w.at s ≡ note_of t ++ rest →
      w.at + length (note_of t) ≤ end → length w.lay.list ≡ 16 → Fits level row w.lay t → group_read s end level row w ≡ after t row w
  tree_reads (leaf h d) s end level row w rest e n full f =
      let r = leaf_fits level row w h d f in
      group_leaf s end level row w (leaf_head s w.at end h d rest e n r.1)
      ∙ sym (entered_is level row h d 4 6 w r.0) ∙ after_leaf h d row w
  tree_reads (branch h ms) s end level row w rest e n full f =
      let len = branch_length (notes_in ms) in
      let r = branch_fits level row w h len ms f in
      let go = members_in s end level row w h len in
      let inside : grown row h 0 len 5 w ≡ entered level row h 0 len 5 w = entered_is level row h 0 len 5 w r.0 in
      group_branch s end level row w (branch_head s w.at end h (notes_in ms) rest e (omega arith) (omega (arith, notes_short ms, r.1.groups)))
      ∙ ap (λ (v : State). next v go) (sym inside) ∙ next_go (grown row h 0 len 5 w) go refl
      ∙ members_read_lem ms s (w.at + 2 + len) (level + 1) (row + h) w.lay.groups w.at 0 (grown row h 0 len 5 w) rest
      (behind s w.at (len % 256 ∷ len / 256 % 256 ∷ 2 ∷ 0 ∷ h ∷ []) (notes_in ms ++ rest) e)
      (omega arith) (length-set w.lay.list w.lay.groups _ ∙ full) r.1
      ∙ after_branch h ms row w (omega (arith, full, r.0.groups))

  members_read_lem : (ms : Members) (s : List ℕ) (end level row own start count : ℕ) (w : State) (rest : List ℕ) → drop w.at s ≡ notes_in ms ++ rest →
      w.at + length (notes_in ms) ≡ end → length w.lay.list ≡ 16 → FitsIn level row w.lay ms →
      members_read s end level row own start count w ≡ closed own (after_in ms row w)
  members_read_lem (pair t u) s end level row own start count w rest e n full f =
      let r = pair_fits level row w t u f in
      let one = e ∙ append_assoc (note_of t) (note_of u) rest in
      let two = behind s w.at (note_of t) (note_of u ++ rest) one in
      let x = after t row w in
      let m = length-append (note_of t) (note_of u) in
      let a = (note_short t).0 in
      let b = (note_short u).0 in
      member_read s end level row own start count w t (λ z. omega arith)
      (tree_reads t s end level row w (note_of u ++ rest) one (omega arith) full r.0)
      ∙ member_read s end level row own start (count + 1) x u (λ z. omega arith)
      (tree_reads u s end level row x rest two (omega arith) (length-sets w.lay.list w.lay.groups (groups_of t row w.lay.k w.lay.r) ∙ full) r.1)
      ∙ members_end s end level row (after u row x) own start (count + 1 + 1) (omega arith) (omega arith)
      ∙ ap (closed own) (after_pair t u row w)
  members_read_lem (more t ms) s end level row own start count w rest e n full f =
      let r = more_fits level row w t ms f in
      let one = e ∙ append_assoc (note_of t) (notes_in ms) rest in
      let x = after t row w in
      let m = length-append (note_of t) (notes_in ms) in
      let a = (note_short t).0 in
      member_read s end level row own start count w t (λ z. omega arith)
      (tree_reads t s end level row w (notes_in ms ++ rest) one (omega arith) full r.0)
      ∙ members_read_lem ms s end level row own start (count + 1) x rest (behind s w.at (note_of t) (notes_in ms ++ rest) one) (omega arith)
      (length-sets w.lay.list w.lay.groups (groups_of t row w.lay.k w.lay.r) ∙ full) r.1
      ∙ ap (closed own) (after_more t ms row w)
