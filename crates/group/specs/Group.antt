-- Document 01, 'Group intervals', 'Lanes in metering': a tick of the group, "group interval, lane intervals, release"; the interval as
-- document 02, A1, steers it, and its A4's bypass between the group's interval and the lanes'.
use Rattle.std.specs.Prelude.{ℕ, Bool, cond, not, List, eqb}
use Rattle.loops.specs.Any.{any_from}
use Rattle.inputs.specs.declared.Metered.{Metered}
use Rattle.inputs.specs.declared.Calls.{Calls}
use Rattle.wanted.specs.declared.wish.Wish.{Wish}
use Rattle.timings.specs.declared.Timings.{Timings}
use Rattle.lanes.specs.declared.Lanes.{Lanes}
use Rattle.lanes.specs.declared.Endings.{Endings}
use Rattle.lanes.specs.Lanes.{lane_of, lanes_tick, lanes_entered}
use Rattle.release.specs.Release.{released_of, release_of}
use Rattle.bypass.specs.declared.Bypass.{Bypass}
use Rattle.bypass.specs.Bypass.{bypass_of}
use Rattle.bypass.specs.Lanes.{has_passed, endings_of, released_for}
use Rattle.group.specs.declared.Group.{Group}
use Rattle.group.specs.declared.Moved.{Moved}
use Rattle.group.specs.Intervals.{age_of, next_interval}
use Rattle.group.specs.Preemption.{is_held, steered_wish}

unfoldable pub all_red : Lanes → ℕ → Bool
all_red s n = not (any_from (λ i. not (eqb (lane_of s i).colour 1)) 0 n)

-- The interval after the tick, on the ordinary path. "8 becomes 9 at the first later tick that finds all lanes red as the tick before left
-- them."
unfoldable pub ordinary_interval : Timings → Wish → Group → ℕ
ordinary_interval t wish g = next_interval t wish (age_of g.age) (all_red g.lanes t.lanes) g.interval

-- The interval after the tick: one that preemption holds, or the next on the ordinary path.
unfoldable pub interval_of : Timings → ℕ → Wish → Group → ℕ
interval_of t preemption wish g = cond (is_held preemption g.interval) g.interval (ordinary_interval t (steered_wish preemption wish) g)

-- The bypass one tick later, decided behind the interval and before the lanes (document 02, A4).
unfoldable pub bypass_in : Timings → ℕ → List ℕ → ℕ → Group → Bypass
bypass_in t call passage now g = bypass_of t (eqb now 7) call (has_passed t g.lanes passage) g.bypass

-- The lane intervals. "In 7 and 8, from the tick after that entry, ages and counters rise by one a tick ..; outside them the lanes' numbers
-- stand still."
unfoldable pub lanes_in : Timings → Endings → List ℕ → ℕ → ℕ → Lanes → Lanes
lanes_in t endings passage before now s =
    cond (eqb now 7) (cond (eqb before 7) (lanes_tick t endings s passage) (lanes_entered t.lanes))
    (cond (eqb now 8) (lanes_tick t endings s passage) s)

-- The lane that is released, 0 for none: "in interval 7 alone"; while a bypass is kept the priority lane or none, for "a call stops
-- ordinary releases from its own tick on".
unfoldable pub released_in : Timings → Bool → ℕ → List ℕ → ℕ → Lanes → ℕ
released_in t kept cycle demand now s = cond kept (released_for t s) (cond (eqb now 7) (released_of t cycle demand s) 0)

-- "A new interval's age being 0."
unfoldable pub group_of : Group → ℕ → Bypass → Lanes → Group
group_of g now bypass s = record { interval = now; age = cond (eqb now g.interval) (age_of g.age) 0; lanes = s; bypass = bypass }

-- The lanes as the tick's lane intervals leave them.
unfoldable pub lanes_moved : Timings → ℕ → Bypass → Metered → Group → Lanes
lanes_moved t now bypass samples g = lanes_in t (endings_of t g.bypass bypass) samples.passage g.interval now g.lanes

-- The group with its release.
unfoldable pub moved_with : Group → ℕ → Bypass → Lanes → ℕ → Moved
moved_with g now bypass s released = record { group = group_of g now bypass (release_of s released); released = released }

unfoldable pub moved_of : Timings → Calls → Wish → ℕ → Metered → Group → Moved
moved_of t calls wish cycle samples g =
    let now : ℕ = interval_of t calls.preemption wish g in
    let bypass : Bypass = bypass_in t calls.bypass samples.passage now g in
    let s : Lanes = lanes_moved t now bypass samples g in
    moved_with g now bypass s (released_in t bypass.kept cycle samples.demand now s)
