-- Proved: `push_step` meets its contract. The invariant: behind what was there are the survivors of the step among the blocks below s.
use mathlib.Core.Path.{sym, ◌∙◌}
use native.Mathlib.Omega.{arith}
use borrow.Author.Rules.{rules}
use lib.ListN.{length}
use Rattle.linear.specs.Solved.{vec}
use Rattle.marks.specs.Marks.{marked}
use Rattle.visits.proofs.Pushes.{chosen_room, extended_none, extended_no, extended_yes}
use Rattle.visits.proofs.Visits.push_step.Goals as goal
use Rattle.visits.proofs.Visits.push_step.Goals.{then-comes, else-comes}

pub loop-s-init : goal.loop-s-init
loop-s-init c = extended_none _ _ _ _ (search rules)

pub push-requires : goal.push-requires
push-requires c =
    let room =
    chosen_room (marked c.args.lost) (vec c.args.steps.now) c.args.g c.loop-s.s (length c.args.steps.now) (omega arith)
    (sym c.comes.ensures ∙ c.if-comes.true) in
    (omega (arith, c.loop-s.invariant.count, c.requires.room), omega arith)

pub loop-s-preserved : goal.loop-s-preserved
loop-s-preserved c =
    let said = c.comes.ensures in
    elim c.if-comes.branch [
      | then-comes w ↦
          let room =
          chosen_room (marked c.args.lost) (vec c.args.steps.now) c.args.g c.loop-s.s (length c.args.steps.now) (omega arith)
          (sym said ∙ w.if-comes.true) in
          rw (w.self-is, w.push.ensures)
          (extended_yes _ _ _ _ _ _ (sym said ∙ w.if-comes.true) (omega (arith, c.loop-s.invariant.count, c.requires.room)) c.loop-s.invariant)
      | else-comes w ↦ rw w.self-is (extended_no _ _ _ _ _ _ (sym said ∙ w.if-comes.false) c.loop-s.invariant)
    ]
