-- Proved: what `first` leaves is the end of what it was lent.
use Rattle.std.proofs.Common.{rules}
use Rattle.script.specs.Ends.{IsEnd}
use Rattle.script.proofs.Ends.{end_whole, end_of_end, end_behind_first}
use Rattle.script.proofs.commands.first.Goals as goal

-- the ends that are there before a field is taken: all, and what stands behind the letter
pub returns-clause-end : goal.returns-clause-end
returns-clause-end c =
    let whole = end_whole c.args.s.now in
    let behind : IsEnd c.in_ok-letter.rest.now c.args.s.now = end_behind_first _ _ _ c.in_ok-letter.ensures.cases.0 in
    search (rules, end_of_end)
