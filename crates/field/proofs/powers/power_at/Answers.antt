-- Proved: `powers::power_at` meets its contract, by the rule of the table of powers.
use Rattle.field.proofs.Rules.{powers, powers_at}
use Rattle.field.proofs.powers.power_at.Goals as goal

pub returns : goal.returns
unfolding powers
returns c = powers_at c.args.n c.requires
