-- The loop's invariant: whatever puts what is left puts all of it.
use borrow.Author.Rules.{rules}
use Rattle.text.proofs.JoinedLaws.{joined_turn, joined_end}
use Rattle.text.proofs.PutsLaws.{left_at_start, left_turn, left_end}
use Rattle.yellow_sheet.specs.Sheet.{speed_line}
use Rattle.yellow_sheet.proofs.sheet.put_speeds.Goals as goal

pub loop-speed-init : goal.loop-speed-init
loop-speed-init c = left_at_start

pub loop-speed-preserved : goal.loop-speed-preserved
loop-speed-preserved c = left_turn c.loop-speed.invariant c.put_speed.ensures (joined_turn speed_line 81 c.loop-speed.speed (search rules))

pub returns : goal.returns
returns c =
    left_end c.loop-speed.invariant (joined_end speed_line 81 c.loop-speed.speed (search rules))
