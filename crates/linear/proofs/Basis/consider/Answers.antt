-- Proved: `consider` meets its contract: the survivor's vector is made and absorbed, which is one turn of the greedy choice.
use Prim.Native.Nat.{ℕ, ◌<◌}
use borrow.Author.Rules.{rules}
use lib.ListN.{get_or}
use Rattle.linear.proofs.Vectors.{row_part}
use Rattle.linear.proofs.Taking.{taken_more}
use Rattle.linear.proofs.Basis.consider.Goals as goal

pub returns : goal.returns
returns c =
    let vb : (k : ℕ) → get_or c.vector-v.result k 0 < 256 = search rules in
    taken_more c.requires.taken (λ k. (c.type_inv.rows k).fits) vb
    (c.requires.survivors.below c.args.j c.requires.j_lt_m) (row_part c.args.rows.now _) c.vector-v.ensures c.absorb.ensures
