-- Proved: `put_items` meets its contract. The invariant: the items so far are put.
use mathlib.Core.Path.{ap, refl}
use native.Mathlib.Omega.{arith}
use borrow.Author.Rules.{rules}
use lib.ListN.{length, take, length-append}
use Rattle.std.proofs.lemmas.Slice.Zip.{zip_turn}
use Rattle.text.specs.Text.{items_text}
use Rattle.text.proofs.Puts.{put_nothing, writes_then, placed}
use Rattle.text.proofs.Items.{items_more, items_room, item_listed}
use Rattle.text.proofs.Writer.put_items.Goals as goal

pub loop-s-init : goal.loop-s-init
unfolding items_text
loop-s-init c = (record { put = put_nothing _ _; same = refl }, omega arith)

pub put_item-requires : goal.put_item-requires
put_item-requires c =
    let i = length c.loop-s.yielded in
    let listed =
    item_listed c.args.block.now c.args.coef.now i c.args.reads
    (zip_turn (take c.args.reads c.args.block.now) (take c.args.reads c.args.coef.now) c.loop-s.yielded _ _ c.next.new.self _
    (search rules) (search rules) c.loop-s.yielded_by _ c.in-Some.is c.next.ensures.steps) in
    let room = items_room c.args.block.now c.args.coef.now i c.args.reads listed.0 in
    let size = ap length listed.1 in
    simp length-append
    (omega (arith, c.requires.room, placed c.loop-s.invariant.0, simp length-append at room, simp length-append at size))

pub loop-s-preserved : goal.loop-s-preserved
loop-s-preserved c =
    let listed =
    item_listed c.args.block.now c.args.coef.now (length c.loop-s.yielded) c.args.reads
    (zip_turn (take c.args.reads c.args.block.now) (take c.args.reads c.args.coef.now) c.loop-s.yielded _ _ c.next.new.self _
    (search rules) (search rules) c.loop-s.yielded_by _ c.in-Some.is c.next.ensures.steps) in
    rw (length-append c.loop-s.yielded _) (
      rw (items_more c.args.block.now c.args.coef.now (length c.loop-s.yielded), ← listed.1)
          (writes_then c.loop-s.invariant.0 c.put_item.ensures),
      omega (arith, listed.0),
    )
