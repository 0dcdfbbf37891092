-- Proved: `rebuild_by` meets its contract: each test is a need, in the order of the table; every lost block is judged before the first is written.
use Rattle.repairs.proofs.Turning.{rebuilds_named, rebuilds_done}
use Rattle.repairs.proofs.rebuild_by.Goals as goal

pub returns-in-Some : goal.returns-in-Some
returns-in-Some c = rebuilds_named c.args.l c.args.st _ c.in_ok-front.ensures c.in-Some.ensures

pub returns : goal.returns
returns c = rebuilds_done c.args.l c.args.st _ c.in_ok-front.ensures c.in_default.ensures _ _ c.restore.ensures
