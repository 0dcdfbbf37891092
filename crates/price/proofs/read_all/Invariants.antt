-- Proved: `read_all` meets its contract. The invariant: `total` is the sum of the reads over the data blocks below i, at most 32 for each.
use Prim.Native.Nat.{◌*◌, ◌≤◌}
use Rattle.price.specs.Sheet.{Reads}
use Rattle.price.proofs.read_all.Given as goal

abbrev pub invariant-loop-i : goal.invariant-loop-i
invariant-loop-i l = (l.total ≤ l.i * 32) × Reads l.l l.i l.total
