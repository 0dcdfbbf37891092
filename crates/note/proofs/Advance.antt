-- Proved: the reader's state after a tree, in closed form: its groups stand in the layout from the next entry on, its totals and its bytes are
-- added.
use Prim.Native.Nat.{ℕ, suc, ◌+◌, ◌-◌, ◌/◌, ◌%◌, ◌<◌}
use mathlib.Core.Path.{◌≡◌, refl, ◌∙◌, ap, ap₂}
use mathlib.Core.List.{List, [], ◌∷◌, ◌++◌}
use native.Mathlib.Omega.{arith}
use native.Mathlib.Nat.{add-zero, add-suc, suc-add, add_assoc}
use native.Mathlib.Numerals.{add-one}
use lib.ListN.{length, get_or, set, length-append}
use lib.Seq.{sets, get_or-set_same, get_or-set_other, set-set, set_comm}
use Rattle.groups.specs.declared.Group.{Group}
use Rattle.groups.specs.declared.State.{State}
use Rattle.groups.specs.Groups.{no_group, grown, ended, closed}
use Rattle.note.specs.Tree.{Tree, Members, over, branch_length, note_of, notes_in, datas, datas_in, redundants, redundants_in, size, size_in, groups_of, groups_in}
use Rattle.note.specs.Tree.Tree.{leaf, branch}
use Rattle.note.specs.Tree.Members.{pair, more}

-- ---- stores, one after another

pub sets_append : {A : Type 0} (l : List A) (i : ℕ) (xs ys : List A) → sets (sets l i xs) (i + length xs) ys ≡ sets l i (xs ++ ys)
sets_append l i [] ys = rw add-zero
sets_append l i (x ∷ xs) ys = rw (add-suc i (length xs), ← suc-add i (length xs)) (sets_append (set l i x) (suc i) xs ys)

get_d_sets : {A : Type 0} (l : List A) (i j : ℕ) (xs : List A) (d : A) → j < i → get_or (sets l i xs) j d ≡ get_or l j d
get_d_sets l i j [] d h = refl
get_d_sets l i j (x ∷ xs) d h = get_d_sets (set l i x) (suc i) j xs d (omega arith) ∙ get_or-set_other l i j x d (λ e. omega arith)

set_sets : {A : Type 0} (l : List A) (i j : ℕ) (xs : List A) (a : A) → j < i → set (sets l i xs) j a ≡ sets (set l j a) i xs
set_sets l i j [] a h = refl
set_sets l i j (x ∷ xs) a h =
    set_sets (set l i x) (suc i) j xs a (omega arith) ∙ ap (λ (m : List _). sets m (suc i) xs) (set_comm l i j x a (λ e. omega arith))

-- ---- the state after groups, with their data blocks, redundant blocks and bytes

abbrev pub advanced : List Group → ℕ → ℕ → List ℕ → State → State
advanced gs d r bytes w =
    record {
      lay = record {
        groups = w.lay.groups + length gs;
        list = sets w.lay.list w.lay.groups gs;
        k = w.lay.k + d;
        r = w.lay.r + r;
      };
      at = w.at + length bytes;
      fault = 0;
    }

advanced_append : (gs hs : List Group) (d e r q : ℕ) (b c : List ℕ) (w : State) →
    advanced hs e q c (advanced gs d r b w) ≡ advanced (gs ++ hs) (d + e) (r + q) (b ++ c) w
advanced_append gs hs d e r q b c w =
    let g : w.lay.groups + length gs + length hs ≡ w.lay.groups + length (gs ++ hs) = omega (arith, length-append gs hs) in
    let a : w.at + length b + length c ≡ w.at + length (b ++ c) = omega (arith, length-append b c) in
    let l = sets_append w.lay.list w.lay.groups gs hs in
    let k = add_assoc w.lay.k d e in
    let m = add_assoc w.lay.r r q in
    λ i. record { lay = record { groups = g i; list = l i; k = k i; r = m i }; at = a i; fault = 0 }

-- a branch whose members have been read is closed
advanced_branch : (rows h len : ℕ) (gs : List Group) (d r : ℕ) (head bytes : List ℕ) (w : State) → length head ≡ 5 → w.lay.groups < length w.lay.list →
    closed w.lay.groups (advanced gs d r bytes (grown rows h 0 len 5 w)) ≡
    advanced
    (record { h = h; d = 0; len = len; row = rows; first = w.lay.k; redundant = w.lay.r; size = 1 + length gs; count = d } ∷ gs)
    d (h + r) (head ++ bytes) w
advanced_branch rows h len gs d r head bytes w five inside =
    let n = w.lay.groups in
    let list = w.lay.list in
    let fresh : Group = record { h = h; d = 0; len = len; row = rows; first = w.lay.k; redundant = w.lay.r; size = 1; count = 0 } in
    let whole : Group = record { h = h; d = 0; len = len; row = rows; first = w.lay.k; redundant = w.lay.r; size = 1 + length gs; count = d } in
    let found : get_or (sets (set list n fresh) (n + 1) gs) n no_group ≡ fresh =
    get_d_sets (set list n fresh) (n + 1) n gs no_group (omega arith) ∙ get_or-set_same list n fresh no_group inside in
    let size : n + 1 + length gs - n ≡ 1 + length gs = omega arith in
    let count : w.lay.k + 0 + d - w.lay.k ≡ d = omega arith in
    let g : n + 1 + length gs ≡ n + length (whole ∷ gs) = omega arith in
    let a : w.at + 5 + length bytes ≡ w.at + length (head ++ bytes) = omega (arith, length-append head bytes) in
    let k : w.lay.k + 0 + d ≡ w.lay.k + d = omega arith in
    let m : w.lay.r + h + r ≡ w.lay.r + (h + r) = omega arith in
    let is : ended n (n + 1 + length gs) (w.lay.k + 0 + d) (get_or (sets (set list n fresh) (n + 1) gs) n no_group) ≡ whole =
    ap (ended n (n + 1 + length gs) (w.lay.k + 0 + d)) found ∙
    (λ i. record { h = h; d = 0; len = len; row = rows; first = w.lay.k; redundant = w.lay.r; size = size i; count = count i }) in
    let l : set (sets (set list n fresh) (n + 1) gs) n (ended n (n + 1 + length gs) (w.lay.k + 0 + d) (get_or (sets (set list n fresh) (n + 1) gs) n no_group)) ≡
    sets list n (whole ∷ gs) =
    ap (set (sets (set list n fresh) (n + 1) gs) n) is ∙ set_sets (set list n fresh) (n + 1) n gs whole (omega arith) ∙
    ap₂ (λ (x : List Group) (i : ℕ). sets x i gs) (set-set list n fresh whole) (add-one n) in
    λ i. record { lay = record { groups = g i; list = l i; k = k i; r = m i }; at = a i; fault = 0 }

-- ---- the state after a tree

abbrev pub after : Tree → ℕ → State → State
after t row w = advanced (groups_of t row w.lay.k w.lay.r) (datas t) (redundants t) (note_of t) w

abbrev pub after_in : Members → ℕ → State → State
after_in ms row w = advanced (groups_in ms row w.lay.k w.lay.r) (datas_in ms) (redundants_in ms) (notes_in ms) w

pub after_leaf : (h d row : ℕ) (w : State) → grown row h d 4 6 w ≡ after (leaf h d) row w
unfolding groups_of datas redundants note_of over
after_leaf h d row w = refl

pub after_pair : (t u : Tree) (row : ℕ) (w : State) → after u row (after t row w) ≡ after_in (pair t u) row w
unfolding groups_of datas datas_in redundants redundants_in note_of notes_in over
after_pair t u row w =
    advanced_append (groups_of t row w.lay.k w.lay.r) (groups_of u row (w.lay.k + datas t) (w.lay.r + redundants t)) (datas t) (datas u) (redundants t) (redundants u) (note_of t) (note_of u) w

pub after_more : (t : Tree) (ms : Members) (row : ℕ) (w : State) → after_in ms row (after t row w) ≡ after_in (more t ms) row w
unfolding groups_of datas datas_in redundants redundants_in note_of notes_in over
after_more t ms row w =
    advanced_append (groups_of t row w.lay.k w.lay.r) (groups_in ms row (w.lay.k + datas t) (w.lay.r + redundants t)) (datas t) (datas_in ms) (redundants t) (redundants_in ms) (note_of t) (notes_in ms) w

mutual
  unfolding groups_of size size_in over

  pub groups_length : (t : Tree) (row first redundant : ℕ) → length (groups_of t row first redundant) ≡ size t
  groups_length (leaf h d) row first redundant = refl
  groups_length (branch h ms) row first redundant =
      let e = groups_in_length ms (row + h) first (redundant + h) in omega arith

  pub groups_in_length : (ms : Members) (row first redundant : ℕ) → length (groups_in ms row first redundant) ≡ size_in ms
  groups_in_length (pair t u) row first redundant =
      length-append (groups_of t row first redundant) (groups_of u row (first + datas t) (redundant + redundants t))
      ∙ ap₂ ◌+◌ (groups_length t row first redundant) (groups_length u row (first + datas t) (redundant + redundants t))
  groups_in_length (more t ms) row first redundant =
      length-append (groups_of t row first redundant) (groups_in ms row (first + datas t) (redundant + redundants t))
      ∙ ap₂ ◌+◌ (groups_length t row first redundant) (groups_in_length ms row (first + datas t) (redundant + redundants t))

pub after_branch : (h : ℕ) (ms : Members) (row : ℕ) (w : State) → w.lay.groups < length w.lay.list →
    closed w.lay.groups (after_in ms (row + h) (grown row h 0 (branch_length (notes_in ms)) 5 w)) ≡ after (branch h ms) row w
unfolding groups_of datas datas_in redundants redundants_in note_of notes_in over
after_branch h ms row w inside =
    let k : w.lay.k + 0 ≡ w.lay.k = add-zero w.lay.k in
    let n = groups_in_length ms (row + h) w.lay.k (w.lay.r + h) in
    rw (k, ← n) (rw k at (advanced_branch row h (branch_length (notes_in ms)) (groups_in ms (row + h) w.lay.k (w.lay.r + h)) (datas_in ms) (redundants_in ms)
    (branch_length (notes_in ms) % 256 ∷ branch_length (notes_in ms) / 256 % 256 ∷ 2 ∷ 0 ∷ h ∷ []) (notes_in ms) w refl inside))
