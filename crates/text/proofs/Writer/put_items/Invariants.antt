-- Proved: `put_items` meets its contract. The invariant: the items so far are put.
use Prim.Native.Nat.{◌≤◌}
use lib.ListN.{length}
use Rattle.text.specs.Text.{items_text}
use Rattle.text.specs.Put.{Writes}
use Rattle.text.proofs.Writer.put_items.Given as goal

abbrev pub invariant-loop-s : goal.invariant-loop-s
invariant-loop-s l = Writes (items_text l.block l.coef (length l.yielded)) l.initial.self l.self × (length l.yielded ≤ l.reads)
