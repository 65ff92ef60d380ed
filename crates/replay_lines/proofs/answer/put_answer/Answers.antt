-- The tick's line, then the poll's and the readings' where the definition has them.
use borrow.Author.Tests.{not-true, not-false}
use mathlib.Core.List.{append-nil}
use Rattle.text.proofs.PutsLaws.{puts_then}
use Prim.Native.Nat.{◌≤◌}
use lib.ListN.{length}
use Rattle.replay_lines.specs.Replay.{longest_answer}
use Rattle.replay_lines.proofs.LengthLaws.{answer_most}
use Rattle.replay_lines.specs.Answer.{answer_text}
use Rattle.replay_lines.proofs.answer.put_answer.Goals as goal
use Rattle.replay_lines.proofs.answer.put_answer.Goals.{After-put_tick}

answer-short : (p : After-put_tick) → let a = p.args in length (answer_text a.site a.number a.ticked) ≤ longest_answer
answer-short p = answer_most _ _ _ (rw p.shape_of.ensures at p.put_tick.ensures.short)

pub returns-then-not-completes : goal.returns-then-not-completes
unfolding answer_text
returns-then-not-completes c = (record { is = rw (← c.completes.ensures, not-true c.completes.result c.if-not-completes.true-raw, append-nil) (rw c.shape_of.ensures at c.put_tick.ensures.is); short = answer-short (goal.at.returns-then-not-completes c).After-put_tick })

pub returns : goal.returns
unfolding answer_text
returns c = (record {
  is = rw (← c.completes.ensures, not-false c.completes.result c.if-not-completes.false-raw)
      (puts_then (rw c.shape_of.ensures at c.put_tick.ensures.is)
      (puts_then c.put_poll.ensures c.put_speeds.ensures));
  short = answer-short (goal.at.returns c).After-put_tick;
})
