-- The loop's invariant: whatever puts the text of the lanes that are left puts that of all.
use Rattle.readings_text.proofs.LanesLaws.{lanes_start, lanes_turn, lanes_end}
use Rattle.text.proofs.PutsLaws.{left_turn, left_end}
use borrow.Author.Rules.{rules}
use Rattle.readings_text.proofs.put_lanes.Goals as goal

pub loop-j-init : goal.loop-j-init
loop-j-init c =
    let a = c.args in
    (search rules, λ t g. rw (lanes_start a.readings a.m) at g)

pub loop-j-preserved : goal.loop-j-preserved
loop-j-preserved c =
    let a = c.args in
    let put = rw c.lane_in.ensures at c.put_lane.ensures in (
      search rules,
      left_turn c.loop-j.invariant.1 put (lanes_turn a.readings c.loop-j.j a.m (search rules)),
    )

pub returns : goal.returns
returns c =
    let a = c.args in
    left_end c.loop-j.invariant.1 (lanes_end a.readings c.loop-j.j a.m (search rules))
