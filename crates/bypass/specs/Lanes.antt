-- Document 02, A4: what a bypass makes of the lanes, and what it does. Lanes are counted from 0 here; the priority lane is a number from 1.
use Rattle.std.specs.Prelude.{ℕ, ◌+◌, ◌-◌, Bool, cond, not, ◌&&◌, List, eqb, get_or}
use Rattle.loops.specs.Any.{any_from}
use Rattle.timings.specs.declared.Timings.{Timings}
use Rattle.lanes.specs.declared.Lane.{Lane}
use Rattle.lanes.specs.declared.Lanes.{Lanes}
use Rattle.lanes.specs.declared.Endings.{Endings}
use Rattle.lanes.specs.declared.Ending.TheVariants.{Ordinary, Cut, Held, Now}
use Rattle.lanes.specs.Intervals.{has_been_red}
use Rattle.lanes.specs.Lanes.{lane_of}
use Rattle.bypass.specs.declared.Bypass.{Bypass}
use Rattle.bypass.specs.declared.Doing.{Doing}
use Rattle.bypass.specs.declared.Doing.TheVariants.{None, Waits, Runs}

-- The priority lane's place; 0 where there is none, of which no bypass asks.
unfoldable pub place_of : Timings → ℕ
place_of t = t.priority - 1

unfoldable pub priority_of : Timings → Lanes → Lane
priority_of t s = lane_of s (place_of t)

-- A "passage while green under it (the tick of release, or of a call that finds it green, not counted)": the lane is green as the tick
-- begins. It counts for a bypass that is kept then (`kept_of`).
unfoldable pub has_passed : Timings → Lanes → List ℕ → Bool
has_passed t s passage = eqb (priority_of t s).colour 3 && eqb (get_or passage (place_of t) 0) 1

-- How the lanes' greens end at a tick, the bypass being so before and after it. While one is kept, it "ends the other lanes' greens at
-- minimum green", and the priority lane "stays green whatever its passage count and beyond the maximum". "A green priority lane turns
-- yellow at the tick of the end, whatever its age .. From that tick other greens end as before."
unfoldable pub endings_of : Timings → Bypass → Bypass → Endings
endings_of t was now =
    cond now.kept (record { lane = t.priority; own = Held; others = Cut })
    (cond was.kept (record { lane = t.priority; own = Now; others = Ordinary }) (record { lane = t.priority; own = Ordinary; others = Ordinary }))

-- Lane i is not red, and another than the priority lane.
unfoldable pub other_not_red : Timings → Lanes → ℕ → Bool
other_not_red t s i = not (eqb (lane_of s i).colour 1) && not (eqb t.priority (i + 1))

-- "Once those are red": all lanes but the priority lane.
unfoldable pub others_red : Timings → Lanes → Bool
others_red t s = not (any_from (other_not_red t s) 0 t.lanes)

-- The lane that a bypass releases, 0 for none: "once those are red, and the priority lane has been red its minimum, it is released without
-- regard to its demand, its cycle or the offset".
unfoldable pub released_for : Timings → Lanes → ℕ
released_for t s = cond (has_been_red t (priority_of t s) && others_red t s) t.priority 0

-- What the bypass does, as the tick leaves it: none is kept, or it waits, or runs with its lane green.
unfoldable pub doing_of : Timings → Bypass → Lanes → Doing
doing_of t b s = cond b.kept (cond (eqb (priority_of t s).colour 3) Runs Waits) None
