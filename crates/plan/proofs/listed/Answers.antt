-- Proved: `listed` meets its contract. The invariant: the blocks below s are listed.
use mathlib.Core.Path.{ap}
use native.Mathlib.Omega.{arith}
use borrow.Author.Rules.{rules}
use Rattle.linear.specs.Solved.{vec}
use Rattle.plan.specs.declared.Plan.{Plan}
use Rattle.plan.specs.Listing.{list_of}
use Rattle.plan.proofs.Listings.{list_of_reads, list_of_more, tally_lt}
use Rattle.plan.proofs.listed.Goals as goal

pub loop-s-init : goal.loop-s-init
unfolding list_of
loop-s-init c = c.none-p.ensures

pub offer-requires : goal.offer-requires
offer-requires c = λ h.
    let turn = c.loop-s in
    let less = tally_lt (vec c.args.coef.now) turn.s 48 (omega arith) h in
    omega (arith, list_of_reads (vec c.args.coef.now) turn.s, ap (λ (q : Plan). q.reads) turn.invariant)

pub loop-s-preserved : goal.loop-s-preserved
loop-s-preserved c = rw list_of_more (search rules)
