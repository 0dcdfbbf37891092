-- Proved: `lay` meets its contract: the part from `at` on gets the multiple, and nothing else changes.
use native.Mathlib.Omega.{arith}
use Rattle.corrections.proofs.Laying.{laid_in_lem}
use Rattle.corrections.proofs.lay.Goals as goal

pub returns-clause-laid : goal.returns-clause-laid
returns-clause-laid c = rw c.scaled_add.ensures (laid_in_lem _ _ _ _ (omega arith))
