-- Proved: `lay` meets its contract: the first bytes are those that were given.
use Rattle.std.proofs.Common.{◌≡◌, take}
use Rattle.drill.proofs.buffer.Buffer.lay.Given as goal

abbrev pub invariant-loop-i : goal.invariant-loop-i
invariant-loop-i g l = take l.i l.self.bytes ≡ take l.i l.bytes
