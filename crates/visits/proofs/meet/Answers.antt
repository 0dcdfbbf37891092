-- Proved: `meet` meets its contract. The invariant: `at` is the last of the groups below g that hold both.
use mathlib.Core.Path.{sym, ◌∙◌}
use Prim.Native.Nat.{◌<◌}
use native.Mathlib.Omega.{arith}
use Rattle.rows.proofs.Groups.{few_groups, taken_length, taken_at}
use Rattle.visits.proofs.Walks.{meet_none}
use Rattle.visits.proofs.Steps.{size_fits, meet_yes, meet_no}
use Rattle.visits.proofs.meet.Goals as goal
use Rattle.visits.proofs.meet.Goals.{then-both, else-both}

pub shared_ref_as_front-groups : goal.shared_ref_as_front-groups
shared_ref_as_front-groups c = few_groups _ c.requires

pub loop-g-init : goal.loop-g-init
loop-g-init c = meet_none _ _ _

pub both-requires : goal.both-requires
both-requires c =
    let h : c.loop-g.g < c.args.l.groups = omega (arith, taken_length _ c.requires) in
    rw (taken_at _ c.requires _ h) (omega (arith, size_fits _ c.requires c.loop-g.g h))

pub loop-g-preserved : goal.loop-g-preserved
loop-g-preserved c =
    let h : c.loop-g.g < c.args.l.groups = omega (arith, taken_length _ c.requires) in
    let said = rw (taken_at _ c.requires _ h) at c.both.ensures in
    elim c.if-both.branch [
      | then-both w ↦ w.at-is ∙ meet_yes _ _ _ _ (sym said ∙ w.if-both.true)
      | else-both w ↦ w.at-is ∙ c.loop-g.invariant ∙ meet_no _ _ _ _ (sym said ∙ w.if-both.false)
    ]
