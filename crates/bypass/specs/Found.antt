-- Document 02, A4 and A5: what is found while a bypass is kept, in words. Lanes are counted from 0 here; the priority lane and
-- the lane found are numbers from 1.
use Rattle.std.specs.Prelude.{ℕ, ◌+◌, ◌≤◌, ◌<◌, ◌≡◌}
use Rattle.timings.specs.declared.Timings.{Timings}
use Rattle.lanes.specs.declared.Lanes.{Lanes}
use Rattle.lanes.specs.Lanes.{lane_of}
use Rattle.bypass.specs.Lanes.{priority_of}

-- "Once those are red, and the priority lane has been red its minimum": the other lanes are those.
pub record Due (t : Timings) (s : Lanes) : Type 0 where
  pub others : (i : ℕ) → i < t.lanes → (i + 1 ≡ t.priority → ⊥) → (lane_of s i).colour ≡ 1
  pub red : (priority_of t s).colour ≡ 1
  pub long : t.minred ≤ (priority_of t s).age

-- Then "it is released without regard to its demand, its cycle or the offset", none of which is asked for; until then no lane is released,
-- for "a call stops ordinary releases from its own tick on". (With priority lane 0, with which no bypass is kept, 0 is found either way.)
pub record FoundFor (t : Timings) (s : Lanes) (found : ℕ) : Type 0 where
  pub released : Due t s → found ≡ t.priority
  pub due : (found ≡ 0 → ⊥) → Due t s
