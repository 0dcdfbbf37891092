-- Proved: `read_group` and `read_members` meet their contracts. Each return is an equation of proofs/Equations.
use mathlib.Core.Path.{sym, ◌∙◌}
use native.Mathlib.Omega.{arith}
use Rattle.groups.proofs.Totals.{passed_on}
use Rattle.note.proofs.Heads.{head_says}
use Rattle.note.proofs.Fronts.{part_head}
use Rattle.note.proofs.Equations.{group_bad, group_leaf, members_few, members_end}
use Rattle.note.proofs.Steps.{entered_grew, branch_stops, branch_goes, group_moves, member_stops, member_goes}
use Rattle.note.proofs.reader.+read_group_read_members.Goals as goal

pub read_group-returns-in_err-v-in-Ok-Branch : goal.read_group-returns-in_err-v-in-Ok-Branch
read_group-returns-in_err-v-in-Ok-Branch t c =
    let head = part_head _ _ _ c.requires.at c.requires.inside _ (rw c.in-Ok-Branch.field-0-is at c.in-Ok-Branch.ensures) in
    rw (passed_on c.from_residual.result _ c.from_residual.ensures.1) (branch_stops _ _ _ _ _ _ head c.in_err-v-in-Ok-Branch.ensures)

pub read_group-overflow_add-end-in-Ok-Branch : goal.read_group-overflow_add-end-in-Ok-Branch
read_group-overflow_add-end-in-Ok-Branch t c =
    let head = part_head _ _ _ c.requires.at c.requires.inside _ (rw c.in-Ok-Branch.field-0-is at c.in-Ok-Branch.ensures) in
    let says = head_says _ _ _ _ head in omega (arith, says, c.requires)

pub read_group-read_members-requires : goal.read_group-read_members-requires
read_group-read_members-requires t c =
    let head = part_head _ _ _ c.requires.at c.requires.inside _ (rw c.in-Ok-Branch.field-0-is at c.in-Ok-Branch.ensures) in
    let says = head_says _ _ _ _ head in
    let grew = entered_grew _ _ _ 0 _ 5 _ _ c.in_ok-v-in-Ok-Branch.ensures in
    let pre = c.requires in
    (omega (arith, says, grew, pre), (omega (arith, says, grew, pre, c.from.ensures), omega (arith, grew)))

pub read_group-returns-in-Err : goal.read_group-returns-in-Err
read_group-returns-in-Err t c =
    c.stop.ensures ∙ sym (group_bad _ _ _ _ _ (part_head _ _ _ c.requires.at c.requires.inside _ c.in-Err.ensures))

pub read_group-returns-in-Ok-Leaf : goal.read_group-returns-in-Ok-Leaf
read_group-returns-in-Ok-Leaf t c =
    let head = part_head _ _ _ c.requires.at c.requires.inside _ (rw c.in-Ok-Leaf.field-0-is at c.in-Ok-Leaf.ensures) in
    c.enter.ensures ∙ sym (group_leaf _ _ _ _ _ head)

pub read_group-returns-in_ok-v-in-Ok-Branch : goal.read_group-returns-in_ok-v-in-Ok-Branch
read_group-returns-in_ok-v-in-Ok-Branch t c =
    let head = part_head _ _ _ c.requires.at c.requires.inside _ (rw c.in-Ok-Branch.field-0-is at c.in-Ok-Branch.ensures) in
    branch_goes _ _ _ _ _ _ _ head c.in_ok-v-in-Ok-Branch.ensures (rw c.from.ensures at c.read_members.ensures)

pub read_members-returns-then-count-lt2 : goal.read_members-returns-then-count-lt2
read_members-returns-then-count-lt2 t c =
    c.stop.ensures ∙ sym (members_few _ _ _ _ _ _ _ _ c.if-w-around.true (omega arith))

pub read_members-returns-then-w-around : goal.read_members-returns-then-w-around
read_members-returns-then-w-around t c =
    c.close.ensures ∙ sym (members_end _ _ _ _ _ _ _ _ c.if-w-around.true (omega arith))

pub read_members-returns-in_err-v : goal.read_members-returns-in_err-v
read_members-returns-in_err-v t c =
    rw (passed_on c.from_residual.result _ c.from_residual.ensures.1) (member_stops _ _ _ _ _ _ _ _ _ c.if-w-around.false c.in_err-v.ensures)

pub read_members-read_members-requires : goal.read_members-read_members-requires
read_members-read_members-requires t c =
    let moved = group_moves _ _ _ _ _ _ c.in_ok-v.ensures in
    let pre = c.requires in
    (omega (arith, moved, pre), (omega (arith, moved, pre), omega (arith, moved, pre)))

pub read_members-returns : goal.read_members-returns
read_members-returns t c =
    member_goes _ _ _ _ _ _ _ _ _ _ c.if-w-around.false c.in_ok-v.ensures c.read_members.ensures
