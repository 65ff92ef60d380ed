-- Document 01, 'Lanes in metering': which lane a tick in interval 7 releases, and what the release does. Lanes are numbered from 1, and 0 is
-- none.
use Rattle.std.specs.Prelude.{ℕ, ◌+◌, ◌-◌, Bool, cond, not, ◌&&◌, List, leb, eqb, get_or}
use Rattle.loops.specs.Any.{any_from}
use Rattle.turns.specs.Turn.{first_after}
use Rattle.timings.specs.declared.Timings.{Timings}
use Rattle.lanes.specs.declared.Lane.{Lane}
use Rattle.lanes.specs.declared.Lanes.{Lanes}
use Rattle.lanes.specs.Intervals.{lane, has_been_red}
use Rattle.lanes.specs.Lanes.{lane_of, each_lane}
use Rattle.release.specs.Cycle.{offset_ticks}

-- "A lane is ready if red at least the minimum, in demand, and at least a cycle from its last green's start."
unfoldable pub is_ready : Timings → ℕ → ℕ → Lane → Bool
is_ready t cycle demand l = has_been_red t l && (eqb demand 1 && leb cycle l.counter)

-- The same of lane k.
unfoldable pub ready_at : Timings → ℕ → List ℕ → Lanes → ℕ → Bool
ready_at t cycle demand s k = is_ready t cycle (get_or demand (k - 1) 0) (lane_of s (k - 1))

unfoldable pub any_green : Lanes → ℕ → Bool
any_green s n = any_from (λ i. eqb (lane_of s i).colour 3) 0 n

-- "Mutual exclusion needs no lane green (yellow may be); fractional offset needs cycle ÷ n, rounded up, since the group's last green start."
unfoldable pub may_release : Timings → ℕ → Lanes → Bool
may_release t cycle s = cond (eqb t.mode 1) (leb (offset_ticks cycle t.lanes) s.offset) (not (any_green s t.lanes))

-- "At most one ready lane is released per tick: the first found from the lane after the last released."
unfoldable pub released_of : Timings → ℕ → List ℕ → Lanes → ℕ
released_of t cycle demand s = cond (may_release t cycle s) (first_after (ready_at t cycle demand s) t.lanes s.last t.lanes) 0

unfoldable pub green_if : ℕ → ℕ → Lane → Lane
green_if released k l = cond (eqb released k) (lane 3 0 0 0) l

-- "A release sets that lane's cycle counter and passage count and the offset counter to 0."
unfoldable pub release_of : Lanes → ℕ → Lanes
release_of s released = cond (eqb released 0) s (each_lane (λ i. green_if released (i + 1) (lane_of s i)) 0 released)
