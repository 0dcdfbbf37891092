-- Proved: `home_of` meets its contract. The invariant: `at` is the home among the groups below x.
use mathlib.Core.Path.{◌≡◌, sym, ◌∙◌}
use Prim.Native.Nat.{◌<◌}
use native.Mathlib.Omega.{arith}
use Rattle.rows.specs.Rows.{home}
use Rattle.rows.proofs.Groups.{home_none, home_yes, home_no, few_groups, taken_length, taken_at, fits}
use Rattle.rows.proofs.home_of.Goals as goal
use Rattle.rows.proofs.home_of.Goals.{then-owned, else-owned}

pub shared_ref_as_front-groups : goal.shared_ref_as_front-groups
shared_ref_as_front-groups c = few_groups _ c.requires

pub loop-x-init : goal.loop-x-init
loop-x-init c = home_none _ _

pub owned-requires : goal.owned-requires
owned-requires c =
    let h : c.loop-x.x < c.args.l.groups = omega (arith, taken_length _ c.requires) in
    rw (taken_at _ c.requires _ h) (fits _ c.requires _ h)

pub loop-x-preserved : goal.loop-x-preserved
loop-x-preserved c =
    let h : c.loop-x.x < c.args.l.groups = omega (arith, taken_length _ c.requires) in
    let said = rw (taken_at _ c.requires _ h) at c.owned.ensures in
    elim c.if-owned.branch [
      | then-owned w ↦ w.at-is ∙ home_yes _ _ _ (sym said ∙ w.if-owned.true)
      | else-owned w ↦ w.at-is ∙ c.loop-x.invariant ∙ home_no _ _ _ (sym said ∙ w.if-owned.false)
    ]

pub returns : goal.returns
unfolding home
returns c =
    let end : c.loop-x.x ≡ c.args.l.groups = omega (arith, taken_length _ c.requires) in
    rw end at c.loop-x.invariant
