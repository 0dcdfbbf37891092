-- Proved: `fetch_by` meets its contract: what is asked is what fetching asks, and past it a lost block is gathered by its plan.
use Rattle.stripe.proofs.Fetching.{fetch_sources, fetches_done}
use Rattle.stripe.proofs.fetch_by.Goals as goal

pub gather-requires-clause-sources : goal.gather-requires-clause-sources
gather-requires-clause-sources c =
    fetch_sources c.args.l c.args.st c.args.b c.args.stripe.now c.args.spare.now (rw c.in-Some.is at c.in_ok-coef.ensures)

pub returns-in-Some : goal.returns-in-Some
returns-in-Some c =
    fetches_done c.args.l c.args.st c.args.b c.args.stripe.now c.args.spare.now (rw c.in-Some.is at c.in_ok-coef.ensures) _ c.gather.ensures
