-- Proved: `put_lines` meets its contract. The invariant: the lines of the lost blocks below b are put.
use mathlib.Core.Path.{refl, ◌∙◌}
use native.Mathlib.Omega.{arith}
use Rattle.text.proofs.Puts.{put_length}
use Rattle.losses.proofs.Lines.{lines_none, lines_more}
use Rattle.losses.proofs.put_lines.Goals as goal

pub loop-b-init : goal.loop-b-init
loop-b-init c = record { written = lines_none _ _ _ _; same = refl }

pub put_block-requires : goal.put_block-requires
put_block-requires c =
    let so_far = c.loop-b.invariant.written in
    (omega (arith, c.requires), omega (arith, c.requires, so_far.short, so_far.put.end, put_length so_far.put))

pub loop-b-preserved : goal.loop-b-preserved
loop-b-preserved c =
    let so_far = c.loop-b.invariant in
    let turn = c.put_block.ensures in
    record { written = lines_more _ _ c.loop-b.b so_far.written turn.written; same = turn.same ∙ so_far.same }
