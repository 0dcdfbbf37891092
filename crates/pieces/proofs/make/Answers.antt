-- Proved: `make` meets its contract: the block is combined beside the stripe, in a part of an array of zeros, and copied to its place.
use mathlib.Core.Path.{◌∙◌}
use borrow.Author.Rules.{rules}
use lib.ListN.{replicate}
use lib.Seq.{get_or-take}
use Rattle.linear.proofs.Vectors.{zeros_at}
use Rattle.pieces.proofs.Combining.{gathered, copied_in}
use Rattle.pieces.proofs.make.Goals as goal

pub returns : goal.returns
returns c =
    copied_in _ _ _
    (gathered c.args.len (search rules) (λ x l. get_or-take c.args.len (replicate 1024 0) x 0 l ∙ zeros_at 1024 x) c.combine.ensures)
    c.requires.room c.copy_from_slice.ensures.after
