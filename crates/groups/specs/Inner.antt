-- Inside: what entering a group asks of its caller. No contract outside the reader of a note names it.
use Rattle.std.specs.Prelude.{ℕ, ◌+◌, ◌^◌, ◌≤◌, ◌<◌}
use Rattle.groups.specs.declared.Layout.{Layout}
use Rattle.groups.specs.declared.Walk.{Walk}

-- the totals so far are within the bounds
pub record Sound (l : Layout) : Type 0 where
  pub groups : l.groups ≤ 16
  pub k : l.k ≤ 32
  pub r : l.r ≤ 48

-- the state to which a group is added
pub record Enterable (w : Walk) (rows step : ℕ) : Type 0 where
  pub sound : Sound w.lay
  pub few : rows ≤ 16
  pub some : 0 < step
  pub fits : w.at + step < 2 ^ 64
