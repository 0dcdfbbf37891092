-- Proved: `put_block` meets its contract.
use mathlib.Core.Path.{refl, sym, ◌∙◌}
use native.Mathlib.Omega.{arith}
use Rattle.losses.proofs.Lines.{line_short, reads_short, numbered_is, plan_short, goes_present, goes_lost}
use Rattle.losses.proofs.put_block.Goals as goal

pub returns-then-not-holds : goal.returns-then-not-holds
returns-then-not-holds c =
    record { written = goes_present _ _ _ _ _ (sym c.holds.ensures ∙ c.if-not-holds.true); same = refl }

pub put_line-requires : goal.put_line-requires
put_line-requires c =
    let r = c.plan_of-r.result in
    let s = plan_short _ _ _ r c.plan_of-r.ensures in
    rw (numbered_is r c.map_err.result c.map_err.ensures.cases) record {
      b_bound = (omega (arith, c.requires), reads_short r s, omega (arith, c.requires));
      room = omega (arith, c.requires, line_short c.args.b r c.requires.0 s);
    }

pub returns : goal.returns
returns c =
    let put = rw (numbered_is c.plan_of-r.result c.map_err.result c.map_err.ensures.cases) at c.put_line.ensures in
    record { written = goes_lost _ _ _ c.requires.0 (sym c.holds.ensures ∙ c.if-not-holds.false) c.plan_of-r.ensures put.put; same = put.same }
