-- Proved: what `after` leaves is the end of what stood behind the letter: each method of `Fields` leaves an end.
use Rattle.script.proofs.Ends.{end_whole, end_of_end}
use Rattle.script.proofs.commands.after.Goals as goal
use Rattle.script.proofs.commands.after.Goals.{in-78+in_ok-m-in-78+in_ok-bytes-in-78, in-65+in_ok-byte-in-65, in-83+in_ok-number-in-83+in_ok-word-in-83}
use Rattle.script.proofs.commands.after.Goals.{in-66+in_ok-m-in-66+in_ok-bytes-in-66, in-81+in_ok-m-in-81+in_ok-bytes-in-81, in-74+in_ok-byte-in-74, in-69}
use Rattle.script.proofs.commands.after.Goals.{in-79+in_ok-number-in-79, in-80+in_ok-number-in-80, in-82+in_ok-number-in-82, in-85}
use Rattle.script.proofs.commands.after.Goals.{in-68+in_ok-block-in-68+in_ok-offset-in-68+in_ok-m-in-68+in_ok-bytes-in-68, in-70+in_ok-number-in-70}
use Rattle.script.proofs.commands.after.Goals.{in-86+in_ok-number-in-86, in-67+in_ok-word-in-67+in_ok-word-in-67-2, in-84}

pub returns-clause-end : goal.returns-clause-end
returns-clause-end c =
    elim c.match-letter.branch [
      | in-78+in_ok-m-in-78+in_ok-bytes-in-78 w ↦ rw w.fields-is (end_of_end _ _ _ w.bytes.ensures.end w.short.ensures.end)
      | in-65+in_ok-byte-in-65 w ↦ rw w.fields-is w.byte.ensures.end
      | in-83+in_ok-number-in-83+in_ok-word-in-83 w ↦ rw w.fields-is (end_of_end _ _ _ w.word.ensures.end w.number.ensures.end)
      | in-66+in_ok-m-in-66+in_ok-bytes-in-66 w ↦ rw w.fields-is (end_of_end _ _ _ w.bytes-in-66.ensures.end w.long.ensures.end)
      | in-81+in_ok-m-in-81+in_ok-bytes-in-81 w ↦ rw w.fields-is (end_of_end _ _ _ w.bytes-in-81.ensures.end w.short-in-81.ensures.end)
      | in-74+in_ok-byte-in-74 w ↦ rw w.fields-is w.byte-in-74.ensures.end
      | in-69 w ↦ rw w.fields-is (end_whole _)
      | in-79+in_ok-number-in-79 w ↦ rw w.fields-is w.number-in-79.ensures.end
      | in-80+in_ok-number-in-80 w ↦ rw w.fields-is w.number-in-80.ensures.end
      | in-82+in_ok-number-in-82 w ↦ rw w.fields-is w.number-in-82.ensures.end
      | in-85 w ↦ rw w.fields-is (end_whole _)
      | in-68+in_ok-block-in-68+in_ok-offset-in-68+in_ok-m-in-68+in_ok-bytes-in-68 w ↦
          let numbers = end_of_end _ _ _ w.number-in-68-2.ensures.end w.number-in-68.ensures.end in
          rw w.fields-is (end_of_end _ _ _ w.bytes-in-68.ensures.end (end_of_end _ _ _ w.short-in-68.ensures.end numbers))
      | in-70+in_ok-number-in-70 w ↦ rw w.fields-is w.number-in-70.ensures.end
      | in-86+in_ok-number-in-86 w ↦ rw w.fields-is w.number-in-86.ensures.end
      | in-67+in_ok-word-in-67+in_ok-word-in-67-2 w ↦ rw w.fields-is (end_of_end _ _ _ w.word-in-67-2.ensures.end w.word-in-67.ensures.end)
      | in-84 w ↦ rw w.fields-is (end_whole _)
    ]
