-- Document 02, A4, in its own words: one tick, at a site and in a state that are not spoilt. `g` is the group as the tick begins and `g'`
-- as it leaves it, `call` the bypass sample, `released` the lane released, 0 for none. In metering means that `g'` is in interval 7; a
-- bypass is kept while it waits or runs. Lanes are counted from 0; the priority lane and the lane released are numbers from 1.
use Rattle.std.specs.Prelude.{ℕ, ◌+◌, ◌*◌, ◌≤◌, ◌<◌, min, ◌≡◌, true, false, cond, List, eqb, get_or}
use Rattle.timings.specs.declared.Timings.{Timings}
use Rattle.inputs.specs.declared.Metered.{Metered}
use Rattle.inputs.specs.declared.Calls.{Calls}
use Rattle.wanted.specs.declared.wish.Wish.{Wish}
use Rattle.lanes.specs.declared.Lane.{Lane}
use Rattle.lanes.specs.declared.Lanes.{Lanes}
use Rattle.lanes.specs.declared.Endings.{Endings}
use Rattle.lanes.specs.declared.Ending.TheVariants.{Ordinary, Cut, Held, Now}
use Rattle.lanes.specs.Intervals.{lane, rise_of, passages_of}
use Rattle.lanes.specs.Lanes.{lane_of, lanes_tick}
use Rattle.release.specs.Release.{released_of, release_of}
use Rattle.bypass.specs.Lanes.{place_of}
use Rattle.group.specs.declared.Group.{Group}
use Rattle.group.specs.declared.Moved.{Moved}
use Rattle.group.specs.Group.{moved_of}

abbrev lane_in : Group → ℕ → Lane
lane_in g i = lane_of g.lanes i

-- Whether a bypass is kept, the mark and the timer.
pub record Kept (t : Timings) (call : ℕ) (passage : List ℕ) (g g' : Group) : Type 0 where
  -- "In metering, the tick that enters it included, a call" begins a bypass;
  pub begins : g.bypass.kept ≡ false → g.bypass.mark ≡ false → 1 ≤ t.priority → call ≡ 1 → g'.interval ≡ 7 → g'.bypass.kept ≡ true
  -- no call does not; "another bypass needs an accepted tick without the call first"; "the priority lane .. 0 for none".
  pub uncalled : g.bypass.kept ≡ false → (call ≡ 1 → ⊥) → g'.bypass.kept ≡ false
  pub behind : g.bypass.kept ≡ false → g.bypass.mark ≡ true → g'.bypass.kept ≡ false
  pub no_lane : g.bypass.kept ≡ false → t.priority ≡ 0 → g'.bypass.kept ≡ false
  -- "The bypass ends .. at its first passage while green under it (the tick of release, or of a call that finds it green, not counted),
  pub passed : g.bypass.kept ≡ true → (lane_in g (place_of t)).colour ≡ 3 → get_or passage (place_of t) 0 ≡ 1 → g'.bypass.kept ≡ false
  -- when the call goes,
  pub gone : g.bypass.kept ≡ true → (call ≡ 1 → ⊥) → g'.bypass.kept ≡ false
  -- at the timeout", "0 for never", "ten ticks a second after the call's first tick in metering",
  pub timeout : g.bypass.kept ≡ true → 1 ≤ t.timeout → 10 * t.timeout ≤ g.bypass.timer + 1 → g'.bypass.kept ≡ false
  -- "or at closing"; and outside metering none begins.
  pub closing : (g'.interval ≡ 7 → ⊥) → g'.bypass.kept ≡ false
  -- Otherwise it goes on.
  pub goes_on : g.bypass.kept ≡ true → ((lane_in g (place_of t)).colour ≡ 3 → get_or passage (place_of t) 0 ≡ 1 → ⊥) → call ≡ 1
      → (1 ≤ t.timeout → g.bypass.timer + 1 < 10 * t.timeout) → g'.interval ≡ 7 → g'.bypass.kept ≡ true
  -- The mark stands from a bypass's first tick on while the call does, in any interval, and is cleared by a tick without it.
  pub marked : call ≡ 1 → g'.bypass.kept ≡ true → g'.bypass.mark ≡ true
  pub stands : call ≡ 1 → g.bypass.mark ≡ true → g'.bypass.mark ≡ true
  pub after : call ≡ 1 → g.bypass.kept ≡ true → g'.bypass.mark ≡ true
  pub cleared : (call ≡ 1 → ⊥) → g'.bypass.mark ≡ false
  pub unmarked : g.bypass.mark ≡ false → g.bypass.kept ≡ false → g'.bypass.kept ≡ false → g'.bypass.mark ≡ false
  -- "The timer is 0 while no bypass waits or runs", and at a bypass's first tick, "and stops at 2550".
  pub none : g'.bypass.kept ≡ false → g'.bypass.timer ≡ 0
  pub first : g.bypass.kept ≡ false → g'.bypass.timer ≡ 0
  pub rises : g.bypass.kept ≡ true → g'.bypass.kept ≡ true → g'.bypass.timer ≡ min (g.bypass.timer + 1) 2550

-- The other lanes are red, the tick done.
abbrev OthersRed : Timings → Group → Type 0
OthersRed t g' = (i : ℕ) → i < t.lanes → (i + 1 ≡ t.priority → ⊥) → (lane_in g' i).colour ≡ 1

-- A green lane a tick later, still green, with this passage sample.
pub record Older (passage : ℕ) (l l' : Lane) : Type 0 where
  pub colour : l'.colour ≡ 3
  pub age : l'.age ≡ rise_of l.age
  pub counter : l'.counter ≡ rise_of l.counter
  pub passages : l'.passages ≡ passages_of l.passages passage

-- What the lanes do at a tick that leaves a bypass kept.
pub record Under (t : Timings) (passage : List ℕ) (g g' : Group) (released : ℕ) : Type 0 where
  -- "A call stops ordinary releases from its own tick on": the priority lane is released, or none; on entering metering none.
  pub stops : (released ≡ t.priority → ⊥) → released ≡ 0
  pub enters : (g.interval ≡ 7 → ⊥) → released ≡ 0
  -- Else the lanes tick as ever, greens ending as the next sentences say, and nothing but that release is done to them.
  pub lanes : g.interval ≡ 7 → g'.lanes ≡ release_of (lanes_tick t (record { lane = t.priority; own = Held; others = Cut }) g.lanes passage) released
  -- It "ends the other lanes' greens at minimum green": such a green turns yellow, a younger one goes on.
  pub cut : g.interval ≡ 7 → (i : ℕ) → i < t.lanes → (i + 1 ≡ t.priority → ⊥) → (lane_in g i).colour ≡ 3 → t.mingreen ≤ (lane_in g i).age + 1
      → (lane_in g' i).colour ≡ 2
  pub young : g.interval ≡ 7 → (i : ℕ) → i < t.lanes → (i + 1 ≡ t.priority → ⊥) → (lane_in g i).colour ≡ 3 → (lane_in g i).age + 1 < t.mingreen
      → (lane_in g' i).colour ≡ 3
  -- "Once those are red, and the priority lane has been red its minimum, it is released without regard to its demand, its cycle or the
  -- offset,
  pub release : g.interval ≡ 7 → OthersRed t g' → (lane_in g (place_of t)).colour ≡ 1 → t.minred ≤ (lane_in g (place_of t)).age + 1 → released ≡ t.priority
  pub only : g.interval ≡ 7 → released ≡ t.priority → OthersRed t g' × (((lane_in g (place_of t)).colour ≡ 1) × (t.minred ≤ (lane_in g (place_of t)).age + 1))
  -- and is then the last released lane": a full release.
  pub served : released ≡ t.priority → (lane_in g' (place_of t) ≡ lane 3 0 0 0) × ((g'.lanes.offset ≡ 0) × (g'.lanes.last ≡ t.priority))
  -- "A priority lane already green as the call's tick begins counts as released, but is not released anew: nothing is set to 0 and the last
  -- released lane stays. It stays green whatever its passage count and beyond the maximum." Its numbers rise as ever.
  pub green : g.interval ≡ 7 → (lane_in g (place_of t)).colour ≡ 3 → Older (get_or passage (place_of t) 0) (lane_in g (place_of t)) (lane_in g' (place_of t))
  pub not_anew : g.interval ≡ 7 → (lane_in g (place_of t)).colour ≡ 3
      → (released ≡ 0) × ((g'.lanes.offset ≡ rise_of g.lanes.offset) × (g'.lanes.last ≡ g.lanes.last))

-- Two ticks that leave the same, but for what is kept of a bypass.
pub record Alike (a b : Moved) : Type 0 where
  pub interval : a.group.interval ≡ b.group.interval
  pub age : a.group.age ≡ b.group.age
  pub lanes : a.group.lanes ≡ b.group.lanes
  pub released : a.released ≡ b.released

-- How greens end at the tick of the end: the priority lane's now, the others' "as before".
abbrev endings : Timings → Endings
endings t = record { lane = t.priority; own = Now; others = Ordinary }

-- The lanes at that tick, before any release.
abbrev ended : Timings → Metered → Group → Lanes
ended t samples g = lanes_tick t (endings t) g.lanes samples.passage

pub record Bypassed (t : Timings) (calls : Calls) (wish : Wish) (cycle : ℕ) (samples : Metered) (g : Group) (moved : Moved) : Type 0 where
  pub kept : Kept t calls.bypass samples.passage g moved.group
  pub under : moved.group.bypass.kept ≡ true → Under t samples.passage g moved.group moved.released
  -- "A green priority lane turns yellow at the tick of the end, whatever its age."
  pub end : g.bypass.kept ≡ true → moved.group.bypass.kept ≡ false → (lane_in g (place_of t)).colour ≡ 3
      → ((lane_in moved.group (place_of t)).colour ≡ 2) × ((lane_in moved.group (place_of t)).age ≡ 0)
  -- "The bypass ends, before any release of that tick .. From that tick other greens end as before and, outside closing, ordinary releases
  -- resume."
  pub resumes : g.bypass.kept ≡ true → moved.group.bypass.kept ≡ false
      → (moved.released ≡ cond (eqb moved.group.interval 7) (released_of t cycle samples.demand (ended t samples g)) 0)
      × (moved.group.lanes ≡ release_of (ended t samples g) moved.released)
  -- "A call that brings no bypass .. does nothing": the tick leaves what it would without the call.
  pub nothing : g.bypass.kept ≡ false → moved.group.bypass.kept ≡ false
      → Alike moved (moved_of t (record { preemption = calls.preemption; bypass = 0 }) wish cycle samples g)
