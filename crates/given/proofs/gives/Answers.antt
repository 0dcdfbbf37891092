-- Proved: `gives` meets its contract, from the reading of the note and the comparison with the layout.
use Rattle.given.proofs.Equal.{same_told}
use Rattle.given.proofs.RoundTrip.{accepted_told, refused_told}
use Rattle.given.proofs.gives.Goals as goal

pub returns-in-Ok : goal.returns-in-Ok
returns-in-Ok c =
    accepted_told c.args.note.now _ c.args.l c.eq.result (record { below = λ i. (c.type_inv.note i).fits }) c.in-Ok.ensures
    (same_told _ _ _ c.eq.ensures)

pub returns-in-Err : goal.returns-in-Err
returns-in-Err c = λ g. refused_told _ _ c.in-Err.ensures g
