-- Proved: `put_headers` meets its contract. The invariant: the headers of the groups so far stand at the front of the buffer, and `at` is where
-- they end.
use Rattle.given.proofs.Put.{HeadersPut}
use Rattle.given.proofs.writer.put_headers.Given as goal

abbrev pub invariant-loop-g : goal.invariant-loop-g
invariant-loop-g l = HeadersPut l.initial.buf l.buf l.groups l.at l.g-index
