-- Proved: `view_by` meets its contract: the slice that `part_by` names is cut where it says.
use Rattle.stripe.proofs.Viewing.{placed_inside, slice_spare}
use Rattle.stripe.proofs.view_by.Goals as goal
use Rattle.stripe.proofs.view_by.Goals.{then-p-eq0, else-p-eq0}

pub slice_bounds-result-end : goal.slice_bounds-result-end
slice_bounds-result-end c =
    let inside = placed_inside c.args.l c.args.st _ _ c.args.b c.part_by-p.ensures in
    elim c.if-p-eq0.branch [
      | then-p-eq0 w ↦ rw w.whole-is (rw w.if-p-eq0.true at inside)
      | else-p-eq0 w ↦ rw w.whole-is (rw (slice_spare _ _ _ w.if-p-eq0.false) at inside)
    ]
