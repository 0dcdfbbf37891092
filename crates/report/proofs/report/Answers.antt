-- Proved: `report` meets its contract: the length is asked, then the note, then what follows it.
use native.Mathlib.Omega.{arith}
use Rattle.plan.proofs.Verdicts.{told_yes, told_no}
use Rattle.report.proofs.Reports.{refused_room, written_unmet, written_sound, written_refused, bytes_part, accepted, report_text}
use Rattle.report.proofs.report.Goals as goal

pub refused-requires : goal.refused-requires
refused-requires c = refused_room _ _ (omega (arith, c.if-out-lt12288.false))

pub returns-then-not-readable : goal.returns-then-not-readable
returns-then-not-readable c =
    report_text _ _ _ _ (omega (arith, c.if-out-lt12288.false))
    (written_unmet (told_no c.readable.result c.readable.ensures c.if-not-readable.true) (rw c.number.ensures at c.refused.ensures))

pub follow-requires : goal.follow-requires
follow-requires c =
    let bytes = bytes_part c.note_end-end.result c.args.input.now (λ i. (c.type_inv.input i).fits) in
    record { given = accepted _ _ bytes c.in-Ok.ensures; in_bounds = omega (arith, c.if-out-lt12288.false) }

pub refused-requires-in-Err : goal.refused-requires-in-Err
refused-requires-in-Err c = refused_room _ _ (omega (arith, c.if-out-lt12288.false))

pub returns-in-Ok : goal.returns-in-Ok
returns-in-Ok c =
    let short = told_yes c.readable.result c.readable.ensures c.if-not-readable.false in
    report_text _ _ _ _ (omega (arith, c.if-out-lt12288.false))
    (written_sound _ _ c.note_end-end.ensures short _ c.in-Ok.ensures c.follow.ensures)

pub returns-in-Err : goal.returns-in-Err
returns-in-Err c =
    let short = told_yes c.readable.result c.readable.ensures c.if-not-readable.false in
    let put = rw c.number-in-Err.ensures at c.refused-in-Err.ensures in
    report_text _ _ _ _ (omega (arith, c.if-out-lt12288.false))
    (written_refused _ _ c.note_end-end.ensures short _ _ c.in-Err.ensures put)
