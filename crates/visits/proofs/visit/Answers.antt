-- Proved: `visit` meets its contract: by the steps of the layout, what is gathered are the visits, and they are at most 48.
use mathlib.Core.Path.{◌∙◌, sym, ap}
use native.Mathlib.Omega.{arith}
use lib.ListN.{length}
use Rattle.std.proofs.lemmas.List.{length-take-le}
use Rattle.marks.specs.Marks.{marked}
use Rattle.rows.proofs.Groups.{few_blocks}
use Rattle.visits.proofs.Orders.{visits_few}
use Rattle.visits.proofs.Pushes.{gathered_visits}
use Rattle.visits.proofs.visit.Goals as goal

pub overflow_add-bytes : goal.overflow_add-bytes
overflow_add-bytes c = omega (arith, few_blocks _ c.requires)

pub slice_bounds-bytes-end : goal.slice_bounds-bytes-end
slice_bounds-bytes-end c = few_blocks _ c.requires

pub slice_bounds-steps-end : goal.slice_bounds-steps-end
slice_bounds-steps-end c = sym (length-take-le _ _ (few_blocks _ c.requires))

pub gather-requires-clause-room : goal.gather-requires-clause-room
gather-requires-clause-room c =
    let long = c.put_steps.auto.steps ∙ length-take-le _ _ (few_blocks _ c.requires) in
    let same = gathered_visits c.args.l (marked c.args.lost) c.args.b _ long c.put_steps.ensures in
    omega (arith, few_blocks _ c.requires, ap length same, visits_few c.args.l c.requires (marked c.args.lost) c.args.b)

pub returns : goal.returns
returns c =
    let long = c.put_steps.auto.steps ∙ length-take-le _ _ (few_blocks _ c.requires) in
    let same = gathered_visits c.args.l (marked c.args.lost) c.args.b _ long c.put_steps.ensures in
    rw same at c.gather.ensures
