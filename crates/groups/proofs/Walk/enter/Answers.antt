-- Proved: `enter` meets its contract. Where no bound is passed, there is room in the array for the group.
use Rattle.groups.specs.Groups.{walking}
use Rattle.groups.proofs.Totals.{enter_room, enter_stops, enter_goes}
use Rattle.groups.proofs.Walk.enter.Goals as goal

pub returns-in-Err : goal.returns-in-Err
returns-in-Err c = enter_stops _ _ _ _ _ _ (walking c.args.self) _ _ c.in-Err.ensures c.stop.ensures

pub bounds-lay-lay : goal.bounds-lay-lay
bounds-lay-lay c = enter_room _ _ _ _ _ c.in_default.ensures

pub returns : goal.returns
returns c =
    enter_goes _ _ _ _ _ _ (walking c.args.self) _ _ _ c.in_default.ensures
    c.from.ensures c.from-2.ensures c.from-3.ensures
