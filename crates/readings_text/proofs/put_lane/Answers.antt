-- The case and three speeds.
use Rattle.text.proofs.PutsLaws.{puts_then}
use Rattle.readings_text.specs.Line.{lane_text}
use Rattle.readings_text.proofs.put_lane.Goals as goal

pub returns : goal.returns
unfolding lane_text
returns c =
    rw (← c.speed_in.ensures)
    (puts_then c.put_case.ensures
    (puts_then c.put_speed.ensures
    (puts_then c.put_speed-2.ensures
    c.put_speed-3.ensures)))
