-- Inside: how many bytes of the buffers are in use after what the program does.
use Rattle.std.specs.Prelude.{◌≡◌}
use Rattle.script.specs.declared.commands.Command.{Command}
use Rattle.script.specs.declared.commands.Command.TheVariants.{Stripe, Spare}
use Rattle.drill.specs.declared.kept.Kept.{Kept}

-- as much of the buffers is in use as before
pub record Same (s r : Kept) : Type 0 where
  pub stripe : r.stripe.used ≡ s.stripe.used
  pub spare : r.spare.used ≡ s.spare.used

-- a command that sets a buffer leaves the other as it was, and any other command sets none
abbrev pub Leaves : Command → Kept → Kept → Type 0
Leaves (Stripe _) s r = r.spare ≡ s.spare
Leaves (Spare _) s r = r.stripe ≡ s.stripe
Leaves _ s r = Same s r
