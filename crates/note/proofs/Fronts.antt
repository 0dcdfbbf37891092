-- Proved: the record at the front of what is left of a branch or note, by what stands there, and that it is the record at its place in the note.
use Prim.Native.Nat.{ℕ, ◌+◌, ◌-◌, ◌*◌, ◌≤◌, ◌<◌}
use mathlib.Core.Path.{◌≡◌, refl, sym, ◌∙◌, ap}
use mathlib.Core.List.{List, [], ◌∷◌}
use Rattle.std.specs.Int.{w16, from_le_bytes}
use native.Mathlib.Omega.{arith}
use native.Mathlib.Nat.{add-zero}
use Rattle.groups.specs.Groups.{if_eq}
use lib.ListN.{length, get_or, take, drop, length-drop}
use lib.Seq.{get_or-take, get_or-drop}
use Rattle.std.proofs.lemmas.List.{length-take}
use Rattle.groups.proofs.Picks.{lt_yes, lt_no, eq_yes, eq_no, by_lt, by_eq}
use Rattle.note.specs.Note.{Head, length_at, kind_at, leaf_at, branch_at, record_at, head_at}
use Rattle.note.specs.Note.Head.{Bad, Leaf, Branch}

-- ---- what stands at the front

pub front_short : (s : List ℕ) → length s < 4 → Bad 1 ≡ head_at s 0 (length s)
unfolding head_at
front_short s h = lt_yes _ (omega arith) refl

two_bytes : (low high : ℕ) → from_le_bytes w16 (low ∷ high ∷ []) ≡ low + 256 * high
two_bytes low high = omega arith

module _ (s : List ℕ) (len kind : ℕ) (l : len ≡ from_le_bytes w16 (get_or s 0 0 ∷ get_or s 1 0 ∷ []))
    (k : kind ≡ from_le_bytes w16 (get_or s 2 0 ∷ get_or s 3 0 ∷ [])) (h : 4 ≤ length s) where
  -- the checks of a record that has its 4 bytes
  front_is : record_at s 0 (length s - 2) len kind ≡ head_at s 0 (length s)
  unfolding head_at
  front_is = let e : length s - 0 - 2 ≡ length s - 2 = omega arith in lt_no _ (omega arith) (rw (l ∙ two_bytes _ _, k ∙ two_bytes _ _, e) refl)

  pub front_low : len < 2 → Bad 3 ≡ head_at s 0 (length s)
  unfolding record_at
  front_low a = lt_yes _ a refl ∙ front_is

  pub front_past : 2 ≤ len → length s - 2 < len → Bad 1 ≡ head_at s 0 (length s)
  unfolding record_at
  front_past a b = lt_no _ a (lt_yes _ b refl) ∙ front_is

  module _ (a : 2 ≤ len) (b : len ≤ length s - 2) where
    abbrev body : List ℕ
    body = take (2 + len - 4) (drop 4 s)

    body_length : length body ≡ len - 2
    body_length = omega (arith, length-take (2 + len - 4) (drop 4 s), length-drop 4 s)

    body_byte : (i : ℕ) → i < len - 2 → get_or body i 0 ≡ get_or s (4 + i) 0
    body_byte i m = get_or-take (2 + len - 4) (drop 4 s) i 0 (omega arith) ∙ get_or-drop 4 s i 0

    pub front_leaf : kind ≡ 1 → 2 ≤ length body → length body < 3 → (get_or body 1 0 ≡ 0 → ⊥) → Leaf (get_or body 0 0) (get_or body 1 0) ≡ head_at s 0 (length s)
    unfolding record_at leaf_at
    front_leaf e m n d =
        let x = body_byte 0 (omega (arith, m, n, body_length)) in
        let y = body_byte 1 (omega (arith, m, n, body_length)) in
        lt_no _ a (lt_no _ b (eq_yes _ e (eq_yes _ (omega (arith, m, n, body_length)) (eq_no _ (λ z. d (y ∙ z)) (λ i. Leaf (x i) (y i))))))
        ∙ front_is

    pub front_no_data : kind ≡ 1 → 2 ≤ length body → length body < 3 → get_or body 1 0 ≡ 0 → Bad 3 ≡ head_at s 0 (length s)
    unfolding record_at leaf_at
    front_no_data e m n d =
        let y = body_byte 1 (omega (arith, m, n, body_length)) in
        lt_no _ a (lt_no _ b (eq_yes _ e (eq_yes _ (omega (arith, m, n, body_length)) (eq_yes _ (sym y ∙ d) refl)))) ∙ front_is

    pub front_leaf_length : kind ≡ 1 → (length body ≡ 2 → ⊥) → Bad 3 ≡ head_at s 0 (length s)
    unfolding record_at leaf_at
    front_leaf_length e n = lt_no _ a (lt_no _ b (eq_yes _ e (eq_no _ (λ z. n (omega (arith, z, body_length))) refl))) ∙ front_is

    pub front_branch : kind ≡ 2 → 1 ≤ length body → Branch (get_or body 0 0) len ≡ head_at s 0 (length s)
    unfolding record_at branch_at
    front_branch e n =
        let x = body_byte 0 (omega (arith, n, body_length)) in
        lt_no _ a (lt_no _ b (eq_no _ (λ z. omega arith) (eq_yes _ e (lt_no _ (omega (arith, n, body_length)) (ap (λ (m : ℕ). Branch m len) x))))) ∙ front_is

    pub front_branch_length : kind ≡ 2 → length body < 1 → Bad 3 ≡ head_at s 0 (length s)
    unfolding record_at branch_at
    front_branch_length e n =
        lt_no _ a (lt_no _ b (eq_no _ (λ z. omega arith) (eq_yes _ e (lt_yes _ (omega (arith, n, body_length)) refl)))) ∙ front_is

    pub front_kind : (kind ≡ 1 → ⊥) → (kind ≡ 2 → ⊥) → Bad 2 ≡ head_at s 0 (length s)
    unfolding record_at
    front_kind e f = lt_no _ a (lt_no _ b (eq_no _ e (eq_no _ f refl))) ∙ front_is

-- ---- the same record at its place in the note

module _ (s : List ℕ) (at end : ℕ) (p : at ≤ end) (q : end ≤ length s) where
  abbrev part : List ℕ
  part = take (end - at) (drop at s)

  part_length : length part ≡ end - at
  part_length = omega (arith, length-take (end - at) (drop at s), length-drop at s)

  part_byte : (i : ℕ) → i < end - at → get_or part i 0 ≡ get_or s (at + i) 0
  part_byte i m = get_or-take (end - at) (drop at s) i 0 m ∙ get_or-drop at s i 0

  part_record : (len kind : ℕ) → record_at part 0 (end - at - 2) len kind ≡ record_at s at (end - at - 2) len kind
  unfolding record_at leaf_at branch_at
  part_record len kind =
      by_lt P len 2 (λ a. lt_yes _ a refl)
      (λ a. by_lt P (end - at - 2) len (λ b. lt_no _ a (lt_yes _ b refl))
      (λ b. by_eq P kind 1
      (λ e. by_eq P len 4
      (λ f.
      let x = part_byte 4 (omega arith) in
      let y = part_byte 5 (omega arith) in
      lt_no _ a (lt_no _ b (eq_yes _ e (eq_yes _ f (λ i. if_eq (y i) 0 (Bad 3) (Leaf (x i) (y i)))))))
      (λ f. lt_no _ a (lt_no _ b (eq_yes _ e (eq_no _ f refl)))))
      (λ e. by_eq P kind 2
      (λ f. by_lt P len 3
      (λ g. lt_no _ a (lt_no _ b (eq_no _ e (eq_yes _ f (lt_yes _ g refl)))))
      (λ g. lt_no _ a (lt_no _ b (eq_no _ e (eq_yes _ f (lt_no _ g (ap (λ (m : ℕ). Branch m len) (part_byte 4 (omega arith)))))))))
      (λ f. lt_no _ a (lt_no _ b (eq_no _ e (eq_no _ f refl)))))))
    where
      P : Head → Type 0
      P z = z ≡ record_at s at (end - at - 2) len kind

  part_is : head_at part 0 (length part) ≡ head_at s at end
  unfolding head_at
  part_is =
      by_lt P (length part - 0) 4 (λ a. lt_yes _ (omega (arith, a, part_length)) refl)
      (λ a.
      let room : length part - 0 - 2 ≡ end - at - 2 = omega (arith, part_length) in
      let low = part_byte 0 (omega (arith, a, part_length)) ∙ ap (λ (i : ℕ). get_or s i 0) (add-zero at) in
      let high = part_byte 1 (omega (arith, a, part_length)) in
      let x = part_byte 2 (omega (arith, a, part_length)) in
      let y = part_byte 3 (omega (arith, a, part_length)) in
      lt_no _ (omega (arith, a, part_length))
      ((λ i. record_at part 0 (room i) (low i + 256 * high i) (x i + 256 * y i)) ∙ part_record (length_at s at) (kind_at s at)))
    where
      P : Head → Type 0
      P z = z ≡ head_at s at end

  pub part_head : (r : Head) → r ≡ head_at part 0 (length part) → head_at s at end ≡ r
  part_head r e = sym (e ∙ part_is)
