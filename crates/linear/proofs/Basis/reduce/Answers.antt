-- Proved: `reduce` meets its contract. The invariant: the slots passed are taken out of v.
use Prim.Native.Nat.{◌<◌}
use native.Mathlib.Omega.{arith}
use lib.ListN.{length-take}
use lib.Seq.{get_or-take}
use mathlib.Core.Path.{ap}
use Rattle.linear.specs.declared.Slot.{Slot}
use Rattle.linear.specs.Slots.{blank}
use Rattle.linear.proofs.Vectors.{reduced_none, reduced_more}
use Rattle.linear.proofs.Basis.reduce.Goals as goal

pub loop-slot-init : goal.loop-slot-init
loop-slot-init c = reduced_none _ _ c.told-v

pub loop-slot-preserved : goal.loop-slot-preserved
loop-slot-preserved c =
    let turn = c.loop-slot in
    let basis = c.args.self.now in
    let used : turn.slot-index < basis.count = omega (arith, length-take basis.count basis.slots) in
    let same = get_or-take basis.count basis.slots turn.slot-index blank used in
    let low = c.args.self.now.shape.low turn.slot-index used in
    rw c.scaled_add.ensures (reduced_more same (omega (arith, ap (λ (s : Slot). s.pivot) same)) (omega arith) turn.invariant)
