-- Proved: `digits` is safe: the bytes that it writes are ASCII.
use Rattle.std.specs.List.{All}
use Rattle.std.proofs.Common.{◌<◌}
use Rattle.lines.proofs.show.digits.Given as goal

abbrev pub invariant-loop-i : goal.invariant-loop-i
invariant-loop-i l = All (λ b. b < 128) l.out
