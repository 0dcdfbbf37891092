-- Proved: writing what was read gives the same note, and reading what was written gives the layout. So no two accepted notes give one layout, and
-- a layout is given by some note exactly if its own note gives it.
use Prim.Native.Nat.{ℕ, zero, suc, ◌+◌, ◌-◌, ◌≤◌, ◌<◌}
use mathlib.Core.Path.{◌≡◌, refl, sym, ◌∙◌, ap, ap₂, subst}
use mathlib.Core.Bool.{Bool, true, false}
use mathlib.Core.List.{List, [], ◌∷◌, ◌++◌}
use native.Mathlib.Omega.{arith}
use lib.ListN.{get_or, replicate}
use lib.Seq.{take_at}
use Rattle.groups.specs.declared.Layout.{Layout}
use Rattle.groups.specs.Groups.{no_group}
use Rattle.note.specs.Note.{Bytes, read_note}
use Rattle.note.specs.Note.Outcome.{layout, refusal}
use Rattle.given.specs.Given.{Given, Tells, headers, layout_note}
use Rattle.given.specs.Inner.{IsNote}
use Rattle.note.specs.Tree.{Tree, Members, over, note_of, notes_in, datas, datas_in, redundants, size, rows, rows_in, fewest, fewest_in, groups_of, groups_in, layout_of, Within}
use Rattle.note.specs.Tree.Tree.{leaf, branch}
use Rattle.note.specs.Tree.Members.{pair, more}
use Rattle.given.proofs.Headers.{branch_bytes, leaf_bytes, headers_append, headers_one}
use Rattle.note.proofs.Advance.{groups_length}
use Rattle.note.proofs.Trees.{read_tree, tree_read}

-- ---- the note of a tree's layout is the tree's note

mutual
  unfolding headers groups_of note_of notes_in fewest fewest_in over

  groups_note : (t : Tree) (row first redundant : ℕ) → 1 ≤ fewest t → headers (groups_of t row first redundant) ≡ note_of t
  groups_note (leaf h d) row first redundant p = headers_one _ ∙ sym (leaf_bytes _ (λ e. omega arith))
  groups_note (branch h ms) row first redundant p =
      ap₂ ◌++◌ (sym (branch_bytes _ refl)) (groups_in_note ms (row + h) first (redundant + h) p)

  groups_in_note : (ms : Members) (row first redundant : ℕ) → 1 ≤ fewest_in ms → headers (groups_in ms row first redundant) ≡ notes_in ms
  groups_in_note (pair t u) row first redundant p =
      headers_append (groups_of t row first redundant) (groups_of u row (first + datas t) (redundant + redundants t))
      ∙ ap₂ ◌++◌ (groups_note t row first redundant (omega arith)) (groups_note u row (first + datas t) (redundant + redundants t) (omega arith))
  groups_in_note (more t ms) row first redundant p =
      headers_append (groups_of t row first redundant) (groups_in ms row (first + datas t) (redundant + redundants t))
      ∙ ap₂ ◌++◌ (groups_note t row first redundant (omega arith)) (groups_in_note ms row (first + datas t) (redundant + redundants t) (omega arith))

tree_written : (t : Tree) → Within t → layout_note (layout_of t) ≡ note_of t
unfolding layout_note layout_of
tree_written t b =
    ap headers (take_at (groups_of t 0 0 0) (replicate (16 - size t) no_group) (size t) (groups_length t 0 0 0))
    ∙ groups_note t 0 0 0 b.leaves

-- ---- the bytes of a tree's note

bytes_none : Bytes []
bytes_none = record { below = λ i. omega arith }

bytes_cons : {x : ℕ} {xs : List ℕ} → x < 256 → Bytes xs → Bytes (x ∷ xs)
bytes_cons {x} {xs} h b = record { below = at }
  where
    at : (i : ℕ) → get_or (x ∷ xs) i 0 < 256
    at zero = h
    at (suc i) = b.below i

bytes_append : (xs : List ℕ) {ys : List ℕ} → Bytes xs → Bytes ys → Bytes (xs ++ ys)
bytes_append [] a b = b
bytes_append (x ∷ xs) a b = bytes_cons (a.below 0) (bytes_append xs (record { below = λ i. a.below (suc i) }) b)

mutual
  unfolding note_of notes_in rows rows_in datas datas_in over

  tree_bytes : (t : Tree) → rows t < 256 → datas t < 256 → Bytes (note_of t)
  tree_bytes (leaf h d) p q =
      bytes_cons (omega arith) (bytes_cons (omega arith) (bytes_cons (omega arith) (bytes_cons (omega arith)
      (bytes_cons p (bytes_cons q bytes_none)))))
  tree_bytes (branch h ms) p q =
      bytes_cons (omega arith) (bytes_cons (omega arith) (bytes_cons (omega arith) (bytes_cons (omega arith)
      (bytes_cons (omega arith) (members_bytes ms (omega arith) q)))))

  members_bytes : (ms : Members) → rows_in ms < 256 → datas_in ms < 256 → Bytes (notes_in ms)
  members_bytes (pair t u) p q = bytes_append (note_of t) (tree_bytes t (omega arith) (omega arith)) (tree_bytes u (omega arith) (omega arith))
  members_bytes (more t ms) p q = bytes_append (note_of t) (tree_bytes t (omega arith) (omega arith)) (members_bytes ms (omega arith) (omega arith))

-- ---- the theorems

-- a layout is given exactly if it is that of a tree within the bounds
pub given_tree : (l : Layout) → Given l → (t : Tree) × Within t × (l ≡ layout_of t)
given_tree l g = let r = read_tree g.note l g.bytes g.gives in (r.0, r.1, r.3)

-- the other way, for the reader of `Given`; nothing cites it
pub tree_given : (t : Tree) → Within t → Given (layout_of t)
tree_given t b =
    record { note = note_of t; bytes = tree_bytes t (omega (arith, b.path)) (omega (arith, b.k)); gives = tree_read t b }

-- writing what was read gives the same note
pub write_read : (s : List ℕ) (l : Layout) → Bytes s → read_note s ≡ layout l → layout_note l ≡ s
write_read s l b e = let r = read_tree s l b e in ap layout_note r.3 ∙ tree_written r.0 r.1 ∙ sym r.2

-- reading what was written of a given layout gives the layout
pub read_write : (l : Layout) → Given l → read_note (layout_note l) ≡ layout l
read_write l g = ap read_note (write_read g.note l g.bytes g.gives) ∙ g.gives

-- no two accepted notes give one layout
pub one_note : (s t : List ℕ) (l : Layout) → Bytes s → Bytes t → read_note s ≡ layout l → read_note t ≡ layout l → s ≡ t
one_note s t l b c d e = sym (write_read s l b d) ∙ write_read t l c e

-- ---- the test for refusal 6

pub given_few : (l : Layout) → Given l → l.groups ≤ 16
unfolding layout_of
given_few l g =
    let r = given_tree l g in
    let e : l.groups ≡ size r.0 = ap (λ (x : Layout). x.groups) r.2 in
    omega (arith, e, r.1.groups)

-- a layout is given exactly if its own note gives it
pub given_told : (l : Layout) (t : Bool) → Tells t (IsNote l (layout_note l)) → Tells t (Given l)
given_told l true p = record { note = layout_note l; bytes = p.bytes; gives = p.gives }
given_told l false n = λ g.
    n (record { bytes = subst Bytes (sym (write_read g.note l g.bytes g.gives)) g.bytes; gives = read_write l g })

pub accepted_told : (s : List ℕ) (x l : Layout) (t : Bool) → Bytes s → layout x ≡ read_note s → Tells t (x ≡ l) → Tells t (IsNote l s)
accepted_told s x l true b e p = record { bytes = b; gives = sym e ∙ ap layout p }
accepted_told s x l false b e n = λ g. n (same (e ∙ g.gives))
  where
    same : layout x ≡ layout l → x ≡ l
    same p = cc

pub refused_told : {number offset : ℕ} (s : List ℕ) (l : Layout) → refusal number offset ≡ read_note s → IsNote l s → ⊥
refused_told {number} {offset} s l e g = differ (e ∙ g.gives)
  where
    differ : refusal number offset ≡ layout l → ⊥
    differ p = cc
