-- Proved: `absorb` meets its contract. Where something of v's row is left a slot is free, since the pivots are different columns.
use mathlib.Core.Path.{refl}
use native.Mathlib.Omega.{arith}
use Rattle.linear.proofs.Vectors.{leading, row_zero, slot_free, stored, dropped, zeros_at}
use Rattle.linear.proofs.Basis.absorb.Goals as goal

pub bounds-self-self : goal.bounds-self-self
bounds-self-self c =
    slot_free c.requires c.fits-v c.reduce.ensures (leading _ (omega arith) c.in-Some.ensures.found)

pub returns : goal.returns
returns c =
    let col = leading c.reduce.new.v (omega arith) c.in-Some.ensures.found in
    rw c.scaled_add.ensures
    (stored c.reduce.ensures c.args.self.now.shape col (slot_free c.requires c.fits-v c.reduce.ensures col) c.inv-c.ensures _ refl (zeros_at 80))

pub returns-in_default : goal.returns-in_default
returns-in_default c = dropped c.reduce.ensures c.args.self.now.shape (row_zero _ (omega arith) c.in_default.ensures.found)

pub invariant_of-self : goal.invariant_of-self
invariant_of-self c =
    let col = leading c.reduce.new.v (omega arith) c.in-Some.ensures.found in
    rw c.scaled_add.ensures
    (record { shape = (stored c.reduce.ensures c.args.self.now.shape col (slot_free c.requires c.fits-v c.reduce.ensures col) c.inv-c.ensures _ refl (zeros_at 80)).shape })
