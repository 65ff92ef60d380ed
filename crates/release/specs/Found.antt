-- Document 02, A5: "show which lane, or none, the search finds for every cycle of 20-720 that it is given, whatever rate and V that came
-- from", in words that need no search. The cycle is a plain number here, and may be any. Lanes are numbered from 1, and counted from 0 in
-- `lane_of`.
use Rattle.std.specs.Prelude.{ℕ, ◌-◌, ◌≤◌, ◌<◌, ◌≡◌, List, get_or}
use Rattle.turns.specs.Turn.{turns}
use Rattle.timings.specs.declared.Timings.{Timings}
use Rattle.lanes.specs.declared.Lane.{Lane}
use Rattle.lanes.specs.declared.Lanes.{Lanes}
use Rattle.lanes.specs.Lanes.{lane_of}
use Rattle.release.specs.Cycle.{offset_ticks}

-- "A lane is ready if red at least the minimum, in demand, and at least a cycle from its last green's start."
pub record Ready (t : Timings) (cycle demand : ℕ) (l : Lane) : Type 0 where
  pub red : l.colour ≡ 1
  pub long : t.minred ≤ l.age
  pub wanted : demand ≡ 1
  pub cycled : cycle ≤ l.counter

-- Lane k is one of the group's, and ready.
pub record ReadyLane (t : Timings) (cycle : ℕ) (demand : List ℕ) (s : Lanes) (k : ℕ) : Type 0 where
  pub least : 1 ≤ k
  pub most : k ≤ t.lanes
  pub ready : Ready t cycle (get_or demand (k - 1) 0) (lane_of s (k - 1))

-- A release is possible.
pub record MayRelease (t : Timings) (cycle : ℕ) (s : Lanes) : Type 0 where
  -- "Mutual exclusion", which is any mode but 1, "needs no lane green (yellow may be);
  pub exclusion : (t.mode ≡ 1 → ⊥) → (i : ℕ) → i < t.lanes → (lane_of s i).colour ≡ 3 → ⊥
  -- fractional offset needs cycle ÷ n, rounded up, since the group's last green start."
  pub offset : t.mode ≡ 1 → offset_ticks cycle t.lanes ≤ s.offset

-- The lane found, 0 for none. None is found exactly where no release is possible or no lane is ready:
pub record Found (t : Timings) (cycle : ℕ) (demand : List ℕ) (s : Lanes) (found : ℕ) : Type 0 where
  -- where one is possible and a lane is ready, some lane is found;
  pub some : MayRelease t cycle s → (k : ℕ) → ReadyLane t cycle demand s k → found ≡ 0 → ⊥
  -- where a lane is found, one is possible, and the lane is ready.
  pub possible : (found ≡ 0 → ⊥) → MayRelease t cycle s
  pub ready : (found ≡ 0 → ⊥) → ReadyLane t cycle demand s found
  -- Every other ready lane is more turns behind the last released one, which is one of the group's.
  pub first : (found ≡ 0 → ⊥) → (k : ℕ) → ReadyLane t cycle demand s k → (k ≡ found → ⊥)
      → turns t.lanes s.last found < turns t.lanes s.last k
