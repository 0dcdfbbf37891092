-- Proved: `checksum` is safe: the sum is below the modulus, so that no product overflows.
use Rattle.std.proofs.Common.{◌<◌}
use Rattle.lines.proofs.show.checksum.Given as goal

abbrev pub invariant-loop-b : goal.invariant-loop-b
invariant-loop-b l = l.c < 4294967291
