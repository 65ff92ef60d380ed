-- One day after the other.
use borrow.Author.Rules.{rules}
use Rattle.text.proofs.JoinedLaws.{joined_turn, joined_end}
use Rattle.text.proofs.PutsLaws.{left_at_start, left_turn, left_end}
use Rattle.plan.specs.Entry.{day_types}
use Rattle.entry_text.specs.EntryText.{day_text}
use Rattle.entry_text.proofs.put_days.Goals as goal

pub loop-day-init : goal.loop-day-init
loop-day-init c = left_at_start

pub loop-day-preserved : goal.loop-day-preserved
loop-day-preserved c = left_turn c.loop-day.invariant c.put_day.ensures (joined_turn (day_text _) day_types c.loop-day.day (search rules))

pub returns : goal.returns
returns c = left_end c.loop-day.invariant (joined_end (day_text _) day_types c.loop-day.day (search rules))
