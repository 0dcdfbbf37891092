-- Proved: `close` meets its contract.
use Rattle.groups.specs.Groups.{walking}
use Rattle.groups.proofs.Totals.{close_is}
use Rattle.groups.proofs.Walk.close.Goals as goal

pub returns : goal.returns
returns c = close_is c.args.own (walking c.args.self) _ c.saturating_sub.ensures
