-- Proved: `logs::log_of` meets its contract, by the rule of the table of logarithms.
use Rattle.field.proofs.Rules.{logs, logs_lt, logs_at}
use Rattle.field.proofs.logs.log_of.Goals as goal

pub returns : goal.returns
unfolding logs
returns c = record { small = logs_lt c.args.a c.ranges.a.fits; exact = logs_at c.args.a c.ranges.a.fits }
