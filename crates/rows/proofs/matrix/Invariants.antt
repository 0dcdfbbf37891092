-- Proved: `matrix` meets its contract. The invariant: the rows of the blocks below b are written.
use Rattle.rows.proofs.Stores.{RowsUpto}
use Rattle.rows.proofs.matrix.Given as goal

abbrev pub invariant-loop-b : goal.invariant-loop-b
invariant-loop-b l = RowsUpto l.l l.b l.rows
