-- Proved: `encode_all` meets its contract. The invariant: the redundant blocks below b are made, the data bytes are as they were.
use Rattle.pieces.specs.Pieces.{EncodedList}
use Rattle.pieces.proofs.encoding.encode_all.Given as goal

abbrev pub invariant-loop-b : goal.invariant-loop-b
invariant-loop-b l = EncodedList l.rows l.len l.k l.b l.initial.stripe l.stripe
