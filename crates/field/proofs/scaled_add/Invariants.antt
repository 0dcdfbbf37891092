-- Proved: `scaled_add` meets its contract. The invariant: the first i positions are done, the others as they were.
use lib.ListN.{get_or}
use Rattle.field.specs.Field.{◌⊕◌, mul}
use Rattle.field.proofs.Upto.{Upto}
use Rattle.field.proofs.scaled_add.Given as goal

abbrev pub invariant-loop-i : goal.invariant-loop-i
invariant-loop-i l = Upto l.initial.dst (λ k. get_or l.initial.dst k 0 ⊕ mul l.c (get_or l.src k 0)) l.i l.dst
