-- Proved: `limit` is safe: no pattern of a not-a-number is taken for a number.
use Rattle.std.proofs.Common.{rules}
use Rattle.std.proofs.lemmas.Float.{not_nan_f64_bits}
use Rattle.lines.proofs.figure.limit.Goals as goal

pub float_from_bits-result : goal.float_from_bits-result
float_from_bits-result c = not_nan_f64_bits _ (search rules)
