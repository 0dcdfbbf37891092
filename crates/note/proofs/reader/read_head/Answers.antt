-- Proved: `read_head` meets its contract: each answer is a law of proofs/Fronts.
use mathlib.Core.Path.{◌∙◌}
use native.Mathlib.Omega.{arith}
use Rattle.note.proofs.Fronts.{front_short, front_low, front_past, front_leaf, front_no_data, front_leaf_length, front_branch, front_branch_length, front_kind}
use Rattle.note.proofs.reader.read_head.Goals as goal

pub returns-in_default : goal.returns-in_default
returns-in_default c = front_short _ c.in_default.len_below

pub returns-then-len-lt2 : goal.returns-then-len-lt2
returns-then-len-lt2 c = front_low _ _ _ (c.from-len.ensures ∙ c.from_le_bytes.ensures) c.from_le_bytes-kind.ensures c.in-len4-up.len_at_least c.if-len-lt2.true

pub returns-then-room-len : goal.returns-then-room-len
returns-then-room-len c =
    front_past _ _ _ (c.from-len.ensures ∙ c.from_le_bytes.ensures) c.from_le_bytes-kind.ensures c.in-len4-up.len_at_least c.if-len-lt2.false (omega arith)

pub returns-in-1-len2 : goal.returns-in-1-len2
returns-in-1-len2 c =
    let x = c.in-1-len2 in
    front_leaf _ _ _ (c.from-len.ensures ∙ c.from_le_bytes.ensures) c.from_le_bytes-kind.ensures c.in-len4-up.len_at_least c.if-len-lt2.false (omega arith) x.is-0 x.len_at_least
    x.len_below (λ z. omega (arith, z))

pub returns-in-1-default : goal.returns-in-1-default
returns-in-1-default c =
    front_leaf_length _ _ _ (c.from-len.ensures ∙ c.from_le_bytes.ensures) c.from_le_bytes-kind.ensures c.in-len4-up.len_at_least c.if-len-lt2.false (omega arith) c.in-1-default.is-0
    (λ e. omega (arith, e, c.in-1-default.len_below))

pub returns-in-1-default-2 : goal.returns-in-1-default-2
returns-in-1-default-2 c =
    let x = c.in-1-len2 in
    front_no_data _ _ _ (c.from-len.ensures ∙ c.from_le_bytes.ensures) c.from_le_bytes-kind.ensures c.in-len4-up.len_at_least c.if-len-lt2.false (omega arith) x.is-0 x.len_at_least
    x.len_below (omega arith)

pub returns-in-1-default-3 : goal.returns-in-1-default-3
returns-in-1-default-3 c =
    front_leaf_length _ _ _ (c.from-len.ensures ∙ c.from_le_bytes.ensures) c.from_le_bytes-kind.ensures c.in-len4-up.len_at_least c.if-len-lt2.false (omega arith) c.in-1-default.is-0
    (λ e. omega (arith, e, c.in-1-default.len_at_least))

pub returns-in-2-empty : goal.returns-in-2-empty
returns-in-2-empty c =
    front_branch_length _ _ _ (c.from-len.ensures ∙ c.from_le_bytes.ensures) c.from_le_bytes-kind.ensures c.in-len4-up.len_at_least c.if-len-lt2.false (omega arith) c.in-2-empty.is-0
    c.in-2-empty.len_below

pub returns-in-2-len1-up : goal.returns-in-2-len1-up
returns-in-2-len1-up c =
    front_branch _ _ _ (c.from-len.ensures ∙ c.from_le_bytes.ensures) c.from_le_bytes-kind.ensures c.in-len4-up.len_at_least c.if-len-lt2.false (omega arith) c.in-2-len1-up.is-0
    c.in-2-len1-up.len_at_least

pub returns-in_default-2 : goal.returns-in_default-2
returns-in_default-2 c =
    front_kind _ _ _ (c.from-len.ensures ∙ c.from_le_bytes.ensures) c.from_le_bytes-kind.ensures c.in-len4-up.len_at_least c.if-len-lt2.false (omega arith) (λ e. omega (arith, e, c.in_default-2.is-0)) (λ e. omega (arith, e, c.in_default-2.is-0))
