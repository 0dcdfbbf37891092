-- Proved: `known` meets its contract: a layout is given exactly if its own note, which stands at the front of the buffer, gives it.
use mathlib.Core.Path.{refl}
use native.Mathlib.Omega.{arith}
use lib.ListN.{replicate}
use Rattle.given.proofs.Put.{note_put}
use Rattle.given.proofs.RoundTrip.{given_few, given_told}
use Rattle.given.proofs.known.Goals as goal

pub returns-then-l-gt16 : goal.returns-then-l-gt16
returns-then-l-gt16 c =
    λ g. let few = given_few _ g in omega arith

pub returns : goal.returns
returns c =
    given_told c.args.l c.gives.result (rw (note_put (replicate 96 0) _ c.args.l _ refl c.put_headers-n.ensures) at c.gives.ensures)
