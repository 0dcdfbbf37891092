-- Proved: `put_headers` meets its contract. The invariant: the headers of the groups so far stand at the front of the buffer, and `at` is where
-- they end.
use native.Mathlib.Omega.{arith}
use Rattle.given.proofs.Put.{headers_put_none, headers_put_more, headers_put_all}
use Rattle.given.proofs.writer.put_headers.Goals as goal

pub loop-g-init : goal.loop-g-init
loop-g-init c = headers_put_none _ _

pub loop-g-preserved : goal.loop-g-preserved
loop-g-preserved c = headers_put_more _ _ _ _ _ _ _ c.loop-g.invariant c.loop-g-test.true c.put_head-at.ensures

pub returns : goal.returns
returns c = headers_put_all _ _ _ _ _ c.loop-g.invariant c.loop-g-test.false (omega (arith, c.requires, c.loop-g.auto))
