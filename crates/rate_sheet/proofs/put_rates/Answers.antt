-- The loop's invariant: whatever puts the lines of the rates that are left puts all of them.
use Rattle.rate_sheet.specs.Sheet.{rate_line}
use Rattle.text.proofs.JoinedLaws.{joined_turn, joined_end}
use Rattle.text.proofs.PutsLaws.{left_at_start, left_turn, left_end}
use borrow.Author.Rules.{rules}
use Rattle.rate_sheet.proofs.put_rates.Goals as goal

pub loop-rate-init : goal.loop-rate-init
loop-rate-init c = left_at_start

pub loop-rate-preserved : goal.loop-rate-preserved
loop-rate-preserved c = left_turn c.loop-rate.invariant c.put_rate.ensures (joined_turn rate_line 1801 c.loop-rate.rate (search rules))

pub returns : goal.returns
returns c = left_end c.loop-rate.invariant (joined_end rate_line 1801 c.loop-rate.rate (search rules))
