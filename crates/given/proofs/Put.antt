-- Proved: the stores of one header, and of the headers of the first groups of a layout, as one run of stores at the front of a buffer.
use Prim.Native.Nat.{ℕ, ◌+◌, ◌*◌, ◌/◌, ◌%◌, ◌≤◌, ◌<◌}
use mathlib.Core.Path.{◌≡◌, refl, sym, ◌∙◌, ap}
use mathlib.Core.List.{List, [], ◌∷◌, ◌++◌, append_assoc}
use native.Mathlib.Omega.{arith}
use native.Mathlib.Numerals.{add-one}
use native.Mathlib.Nat.{zero-add}
use lib.ListN.{length, get_or, take, drop, length-append}
use lib.Seq.{sets, take-suc, sets-eq, take-append_seam, take_all, drop-drop}
use borrow.Rule.Slice.PartMut.{put_mid}
use Rattle.groups.specs.declared.Group.{Group}
use Rattle.groups.specs.declared.Layout.{Layout}
use Rattle.groups.specs.Groups.{no_group}
use Rattle.given.specs.Given.{head_bytes, headers, layout_note}
use Rattle.groups.proofs.Picks.{by_eq}
use Rattle.given.proofs.Headers.{branch_bytes, leaf_bytes, headers_snoc}
use Rattle.note.proofs.Advance.{sets_append}

-- bytes that are copied over a part of the buffer are a run of stores
put_is : (b xs ys : List ℕ) (at k : ℕ) → ys ≡ xs → k ≡ length xs → at + length xs ≤ length b → put_mid at k b ys ≡ sets b at xs
put_is b xs ys at k e f h = rw (e, f) (ap (λ (r : List ℕ). take at b ++ (xs ++ r)) (drop-drop (length xs) at b) ∙ sym (append_assoc (take at b) xs (drop (at + length xs) b)) ∙ sym (sets-eq xs b at h))

-- the bytes of a branch's header, and of a leaf's, are copied to a place
pub put_branch : (b ys : List ℕ) (at k : ℕ) (g : Group) → g.d ≡ 0 → ys ≡ g.len % 256 ∷ g.len / 256 % 256 ∷ 2 ∷ 0 ∷ g.h ∷ [] → k ≡ 5 → at + 6 ≤ length b →
    (put_mid at k b ys ≡ sets b at (head_bytes g)) × (at + 5 ≡ at + length (head_bytes g))
put_branch b ys at k g d e f h = rw (← branch_bytes g d) (put_is b _ ys at k e f (omega arith), refl)

pub put_leaf : (b ys : List ℕ) (at k : ℕ) (g : Group) → (g.d ≡ 0 → ⊥) → ys ≡ 4 ∷ 0 ∷ 1 ∷ 0 ∷ g.h ∷ g.d ∷ [] → k ≡ 6 → at + 6 ≤ length b →
    (put_mid at k b ys ≡ sets b at (head_bytes g)) × (at + 6 ≡ at + length (head_bytes g))
put_leaf b ys at k g d e f h = rw (← leaf_bytes g d) (put_is b _ ys at k e f (omega arith), refl)

head_short : (g : Group) → length (head_bytes g) ≤ 6
unfolding head_bytes
head_short g = by_eq (λ (s : List ℕ). length s ≤ 6) g.d 0 (λ e. omega arith) (λ e. omega arith)

-- the headers of the first g groups stand at the front of the buffer
pub record HeadersPut (front buf : List ℕ) (gs : List Group) (at g : ℕ) : Type 0 where
  pub is : buf ≡ sets front 0 (headers (take g gs))
  pub place : at ≡ length (headers (take g gs))
  pub few : at ≤ 6 * g

pub headers_put_none : (buf : List ℕ) (gs : List Group) → HeadersPut buf buf gs 0 0
unfolding headers
headers_put_none buf gs = record { is = refl; place = refl; few = omega arith }

pub headers_put_more : (front buf buf' : List ℕ) (gs : List Group) (at at' g : ℕ) → HeadersPut front buf gs at g → g < length gs →
    (buf' ≡ sets buf at (head_bytes (get_or gs g no_group))) × (at' ≡ at + length (head_bytes (get_or gs g no_group))) → HeadersPut front buf' gs at' (g + 1)
headers_put_more front buf buf' gs at at' g p h e =
    let x = get_or gs g no_group in
    let t : headers (take (g + 1) gs) ≡ headers (take g gs) ++ head_bytes x =
    rw (add-one, take-suc gs g no_group) (headers_snoc (take g gs) x) in
    record {
      is = e.0 ∙ rw (t, p.is, p.place) (rw (← zero-add (length (headers (take g gs)))) (sets_append front 0 (headers (take g gs)) (head_bytes x)));
      place = e.1 ∙ rw (t, p.place) (sym (length-append (headers (take g gs)) (head_bytes x)));
      few = omega (arith, e.1, head_short x);
    }

pub headers_put_all : (front buf : List ℕ) (gs : List Group) (at g : ℕ) → HeadersPut front buf gs at g → length gs ≤ g → g ≤ 16 →
    (buf ≡ sets front 0 (headers gs)) × (at ≡ length (headers gs)) × (at ≤ 96)
headers_put_all front buf gs at g p h n =
    let e : take g gs ≡ gs = take_all g gs h in rw (← e) (p.is, p.place, omega (arith, p.few))

-- the note of a layout that was put at the front is the front
pub note_put : (b buf : List ℕ) (l : Layout) (n : ℕ) → length b ≡ 96 →
    (buf ≡ sets b 0 (headers (take l.groups l.list))) × (n ≡ length (headers (take l.groups l.list))) × (n ≤ 96) → take n buf ≡ layout_note l
unfolding layout_note
note_put b buf l n h e =
    let xs = headers (take l.groups l.list) in
    rw (e.0, e.1, sets-eq xs b 0 (omega (arith, h, e.1, e.2))) (take-append_seam xs (drop (0 + length xs) b))
