-- Proved: `put_row` meets its contract. The invariant: the first i entries of the row are written.
use mathlib.Core.Path.{◌≡◌}
use Prim.Native.Nat.{ℕ, ◌<◌}
use lib.ListN.{get_or}
use Rattle.rows.specs.Rows.{row}
use Rattle.rows.proofs.put_row.Given as goal

abbrev pub invariant-loop-i : goal.invariant-loop-i
invariant-loop-i l = (p : ℕ) → p < l.i → get_or l.entries p 0 ≡ row l.fn.l l.b p
