-- Proved: `gather` meets its contract: the blocks are added to zeros.
use borrow.Author.Rules.{rules}
use Rattle.std.proofs.lemmas.List.{places}
use Rattle.pieces.proofs.Combining.{gathered}
use Rattle.pieces.proofs.gather.Goals as goal

pub returns : goal.returns
returns c =
    gathered _ (search rules) (search (rules, places)) c.combine.ensures
