-- Proved: what is read without a fault is the note of a tree within the bounds, and the reader's state is then the one after that tree.
use Prim.Native.Nat.{ℕ, ◌+◌, ◌*◌, ◌/◌, ◌%◌, ◌≤◌, ◌<◌}
use mathlib.Core.Path.{◌≡◌, refl, sym, ◌∙◌, ap}
use mathlib.Core.List.{List, [], ◌∷◌, ◌++◌, append_assoc}
use native.Mathlib.Omega.{arith}
use native.Mathlib.Nat.{add-zero}
use lib.ListN.{length, drop, get_or, length-append, length-drop, length-set}
use lib.Seq.{get_or-drop, drop-drop, length-sets}
use Rattle.note.specs.Note.Head.{Leaf, Branch}
use Rattle.groups.specs.declared.State.{State}
use Rattle.groups.specs.Groups.{grown, closed}
use Rattle.note.specs.Note.{Bytes}
use Rattle.note.specs.Tree.{Tree, Members, over, branch_length, note_of, notes_in, groups_of}
use Rattle.note.specs.Tree.Tree.{leaf, branch}
use Rattle.note.specs.Tree.Members.{pair, more}
use Rattle.groups.proofs.Totals.{Room}
use Rattle.note.proofs.Heads.{Says}
use Rattle.note.proofs.Runs.{GroupRun, MembersRun}
use Rattle.note.proofs.Runs.GroupRun.{leaf_run, branch_run}
use Rattle.note.proofs.Runs.MembersRun.{end_run, more_run}
use Rattle.note.proofs.Advance.{after, after_in, after_leaf, after_branch, after_pair, after_more}
use Rattle.note.proofs.Fits.{Fits, FitsIn, fits_leaf, fits_branch, fits_pair, fits_more}

-- ---- the first bytes from a place on

front5 : (l : List ℕ) → 5 ≤ length l → l ≡ get_or l 0 0 ∷ get_or l 1 0 ∷ get_or l 2 0 ∷ get_or l 3 0 ∷ get_or l 4 0 ∷ drop 5 l
front5 [] h = absurd (omega arith)
front5 (a ∷ []) h = absurd (omega arith)
front5 (a ∷ b ∷ []) h = absurd (omega arith)
front5 (a ∷ b ∷ c ∷ []) h = absurd (omega arith)
front5 (a ∷ b ∷ c ∷ d ∷ []) h = absurd (omega arith)
front5 (a ∷ b ∷ c ∷ d ∷ e ∷ l) h = refl

front6 : (l : List ℕ) → 6 ≤ length l → l ≡ get_or l 0 0 ∷ get_or l 1 0 ∷ get_or l 2 0 ∷ get_or l 3 0 ∷ get_or l 4 0 ∷ get_or l 5 0 ∷ drop 6 l
front6 [] h = absurd (omega arith)
front6 (a ∷ l) h = ap (λ (t : List ℕ). a ∷ t) (front5 l (omega arith))

drop5 : (s : List ℕ) (at : ℕ) → at + 5 ≤ length s →
    drop at s ≡ get_or s at 0 ∷ get_or s (at + 1) 0 ∷ get_or s (at + 2) 0 ∷ get_or s (at + 3) 0 ∷ get_or s (at + 4) 0 ∷ drop (at + 5) s
drop5 s at h = front5 (drop at s) (omega (arith, length-drop at s)) ∙ simp (get_or-drop, drop-drop, add-zero)

drop6 : (s : List ℕ) (at : ℕ) → at + 6 ≤ length s →
    drop at s ≡ get_or s at 0 ∷ get_or s (at + 1) 0 ∷ get_or s (at + 2) 0 ∷ get_or s (at + 3) 0 ∷ get_or s (at + 4) 0 ∷ get_or s (at + 5) 0 ∷ drop (at + 6) s
drop6 s at h = front6 (drop at s) (omega (arith, length-drop at s)) ∙ simp (get_or-drop, drop-drop, add-zero)

high_byte : (lo hi n : ℕ) → lo < 256 → hi < 256 → lo + 256 * hi ≡ n → hi ≡ n / 256 % 256
high_byte lo hi n a b e = let q : n / 256 ≡ hi = omega arith in rw q (omega arith)

-- ---- a tree that is read from the state w to the state v

pub record Found (s : List ℕ) (level row : ℕ) (w v : State) (t : Tree) : Type 0 where
  pub stands : drop w.at s ≡ note_of t ++ drop v.at s
  pub fits : Fits level row w.lay t
  pub is : v ≡ after t row w

-- the members of the branch `own`, which ends at `end`
record FoundIn (s : List ℕ) (end level row own : ℕ) (w v : State) (ms : Members) : Type 0 where
  pub stands : drop w.at s ≡ notes_in ms ++ drop end s
  pub fits : FitsIn level row w.lay ms
  pub is : v ≡ closed own (after_in ms row w)

-- there are 16 entries before and after
keeps : (t : Tree) (row : ℕ) (w v : State) → v ≡ after t row w → length w.lay.list ≡ 16 → length v.lay.list ≡ 16
keeps t row w v e n = rw e (length-sets w.lay.list w.lay.groups (groups_of t row w.lay.k w.lay.r) ∙ n)

module _ (s : List ℕ) where
  leaf_found : (end level row h d : ℕ) (w v : State) → end ≤ length s → Says s w.at end (Leaf h d) → Room level row h d w.lay →
      v ≡ grown row h d 4 6 w → Found s level row w v (leaf h d)
  unfolding note_of over
  leaf_found end level row h d w v n p r e =
      let b0 : get_or s w.at 0 ≡ 4 = omega (arith, p) in
      let b1 : get_or s (w.at + 1) 0 ≡ 0 = omega (arith, p) in
      let b2 : get_or s (w.at + 2) 0 ≡ 1 = omega (arith, p) in
      let b3 : get_or s (w.at + 3) 0 ≡ 0 = omega (arith, p) in
      let b4 = p.3 in
      let b5 = p.4 in
      let a : v.at ≡ w.at + 6 = ap (λ (x : State). x.at) e in
      record {
        stands = rw a (drop6 s w.at (omega (arith, p)) ∙ (cc));
        fits = fits_leaf level row w h d r p.5;
        is = e ∙ after_leaf h d row w;
      }

  branch_found : (end level row h len : ℕ) (w v : State) (ms : Members) → Bytes s → end ≤ length s → Says s w.at end (Branch h len) →
      Room level row h 0 w.lay → length w.lay.list ≡ 16 →
      FoundIn s (w.at + 2 + len) (level + 1) (row + h) w.lay.groups (grown row h 0 len 5 w) v ms → Found s level row w v (branch h ms)
  unfolding note_of notes_in over
  branch_found end level row h len w v ms b n p r full f =
      let m : len ≡ branch_length (notes_in ms) = omega (arith, p, simp (length-drop, length-append) at (ap length f.stands)) in
      let a : v.at ≡ w.at + 2 + len = ap (λ (x : State). x.at) f.is ∙ omega arith in
      let b0 : get_or s w.at 0 ≡ len % 256 = omega (arith, p, b.below w.at, b.below (w.at + 1)) in
      let b1 = high_byte (get_or s w.at 0) (get_or s (w.at + 1) 0) len (b.below w.at) (b.below (w.at + 1)) p.1 in
      let b2 : get_or s (w.at + 2) 0 ≡ 2 = omega (arith, p) in
      let b3 : get_or s (w.at + 3) 0 ≡ 0 = omega (arith, p) in
      let b4 = p.3 in
      let rest = f.stands in
      record {
        stands = rw (a, ← m) (drop5 s w.at (omega (arith, p)) ∙ (cc));
        fits = fits_branch level row w h len ms r f.fits;
        is = f.is ∙ rw m (after_branch h ms row w (omega (arith, r, full)));
      }

  pair_found : (end level row own : ℕ) (w u x v : State) (t₀ t : Tree) → Found s level row w u t₀ → Found s level row u x t → x.at ≡ end → v ≡ closed own x →
      FoundIn s end level row own w v (pair t₀ t)
  unfolding note_of notes_in over
  pair_found end level row own w u x v t₀ t f g a e =
      record {
        stands = f.stands ∙ ap (λ (l : List ℕ). note_of t₀ ++ l) g.stands ∙ rw a (sym (append_assoc (note_of t₀) (note_of t) (drop end s)));
        fits = fits_pair level row w t₀ t f.fits (rw f.is at g.fits);
        is = e ∙ ap (closed own) (g.is ∙ ap (after t row) f.is ∙ after_pair t₀ t row w);
      }

  more_found : (end level row own : ℕ) (w u v : State) (t : Tree) (ms : Members) → Found s level row w u t → FoundIn s end level row own u v ms →
      FoundIn s end level row own w v (more t ms)
  unfolding note_of notes_in over
  more_found end level row own w u v t ms f g =
      record {
        stands = f.stands ∙ ap (λ (l : List ℕ). note_of t ++ l) g.stands ∙ sym (append_assoc (note_of t) (notes_in ms) (drop end s));
        fits = fits_more level row w t ms f.fits (rw f.is at g.fits);
        is = g.is ∙ ap (closed own) (ap (after_in ms row) f.is ∙ after_more t ms row w);
      }

  module _ (b : Bytes s) where
    mutual
      pub group_found : {end level row : ℕ} {w v : State} → GroupRun s end level row w v → end ≤ length s → length w.lay.list ≡ 16 →
          (t : Tree) × Found s level row w v t
      group_found {end} {level} {row} {w} {v} (leaf_run h d p r e) n full = (leaf h d, leaf_found end level row h d w v n p r e)
      group_found {end} {level} {row} {w} {v} (branch_run h len p r m) n full =
          let ms = first_found m refl (omega (arith, p)) (length-set w.lay.list w.lay.groups _ ∙ full) in
          (branch h ms.0, branch_found end level row h len w v ms.0 b n p r full ms.1)

      -- the members of a branch, before the first
      first_found : {end level row own count : ℕ} {w v : State} → MembersRun s end level row own count w v → count ≡ 0 → end ≤ length s →
          length w.lay.list ≡ 16 → (ms : Members) × FoundIn s end level row own w v ms
      first_found (end_run a c e) z n full = absurd (omega arith)
      first_found {row = row} {w = w} (more_run u g m) z n full =
          let first = group_found g n full in
          second_found m (omega arith) n (keeps first.0 row w u first.1.is full) w first.0 first.1

      -- after the first
      second_found : {end level row own count : ℕ} {u v : State} → MembersRun s end level row own count u v → count ≡ 1 → end ≤ length s →
          length u.lay.list ≡ 16 → (w : State) (t₀ : Tree) → Found s level row w u t₀ → (ms : Members) × FoundIn s end level row own w v ms
      second_found (end_run a c e) z n full w t₀ f = absurd (omega arith)
      second_found {row = row} {u = u} (more_run x g m) z n full w t₀ f =
          let second = group_found g n full in
          tail_found m n (keeps second.0 row u x second.1.is full) w u t₀ second.0 f second.1

      -- what is left of a branch, after two members or more, of which t₀ and t are the last two
      tail_found : {end level row own count : ℕ} {x v : State} → MembersRun s end level row own count x v → end ≤ length s → length x.lay.list ≡ 16 →
          (w u : State) (t₀ t : Tree) → Found s level row w u t₀ → Found s level row u x t → (ms : Members) × FoundIn s end level row own w v ms
      tail_found {end} {level} {row} {own} {count} {x} {v} (end_run a c e) n full w u t₀ t f g = (pair t₀ t, pair_found end level row own w u x v t₀ t f g a e)
      tail_found {end} {level} {row} {own} {count} {x} {v} (more_run y i m) n full w u t₀ t f g =
          let next = group_found i n full in
          let ms = tail_found m n (keeps next.0 row x y next.1.is full) u x t next.0 g next.1 in
          (more t₀ ms.0, more_found end level row own w u v t₀ ms.0 f ms.1)
