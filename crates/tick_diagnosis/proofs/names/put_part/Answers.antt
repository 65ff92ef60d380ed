-- Each case puts the words that the definition gives it.
use Rattle.text.proofs.PutsLaws.{puts_nothing}
use Rattle.tick_diagnosis.proofs.names.put_part.Goals as goal

pub returns-in-TheClock : goal.returns-in-TheClock
returns-in-TheClock c = rw c.in-TheClock.is puts_nothing

pub returns-in-MeteredLane : goal.returns-in-MeteredLane
returns-in-MeteredLane c = rw c.in-MeteredLane.is c.put_lane.ensures

pub returns-in-MainlineLane : goal.returns-in-MainlineLane
returns-in-MainlineLane c = rw c.in-MainlineLane.is c.put_lane-in-MainlineLane.ensures

pub returns-in-TheCalls : goal.returns-in-TheCalls
returns-in-TheCalls c = rw c.in-TheCalls.is puts_nothing

pub returns-in-Manual : goal.returns-in-Manual
returns-in-Manual c = rw c.in-Manual.is c.put.ensures

pub returns-in-Communications : goal.returns-in-Communications
returns-in-Communications c = rw c.in-Communications.is c.put-in-Communications.ensures
