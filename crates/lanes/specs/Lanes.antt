-- Document 01, 'Lanes in metering': the four lanes' numbers, the group's offset counter and the last released lane. Lanes are counted from
-- 0 here; the last released lane is a number from 1.
use Rattle.std.specs.Prelude.{ℕ, ◌+◌, cond, List, [], ◌∷◌, ltb, eqb, get_or}
use Rattle.timings.specs.declared.Timings.{Timings}
use Rattle.lanes.specs.declared.Lane.{Lane}
use Rattle.lanes.specs.declared.Lanes.{Lanes}
use Rattle.lanes.specs.declared.Ending.{Ending}
use Rattle.lanes.specs.declared.Endings.{Endings}
use Rattle.lanes.specs.Intervals.{lane, rise_of, lane_tick}

unfoldable pub lane_of : Lanes → ℕ → Lane
lane_of s i = lane (get_or s.colours i 0) (get_or s.ages i 0) (get_or s.counters i 0) (get_or s.passages i 0)

unfoldable pub lanes_of : Lane → Lane → Lane → Lane → ℕ → ℕ → Lanes
lanes_of a b c d offset last = record {
  colours = a.colour ∷ b.colour ∷ c.colour ∷ d.colour ∷ [];
  ages = a.age ∷ b.age ∷ c.age ∷ d.age ∷ [];
  counters = a.counter ∷ b.counter ∷ c.counter ∷ d.counter ∷ [];
  passages = a.passages ∷ b.passages ∷ c.passages ∷ d.passages ∷ [];
  offset = offset;
  last = last;
}

-- The four lanes, each by its number.
abbrev pub each_lane : (ℕ → Lane) → ℕ → ℕ → Lanes
each_lane lanes offset last = lanes_of (lanes 0) (lanes 1) (lanes 2) (lanes 3) offset last

-- How the green of lane k, a number from 1, ends at a tick.
unfoldable pub ending_of : Endings → ℕ → Ending
ending_of e k = cond (eqb e.lane k) e.own e.others

-- Lane i one tick later, with its passage sample; one that the site lacks stays as it is.
unfoldable pub lane_tick_at : Timings → Endings → Lanes → ℕ → ℕ → Lane
lane_tick_at t e s passage i = cond (ltb i t.lanes) (lane_tick t (ending_of e (i + 1)) (lane_of s i) passage) (lane_of s i)

-- The lanes one tick later, none released.
unfoldable pub lanes_tick : Timings → Endings → Lanes → List ℕ → Lanes
lanes_tick t e s passage = each_lane (λ i. lane_tick_at t e s (get_or passage i 0) i) (rise_of s.offset) s.last

-- "On entering 7 all lanes are red at age 0, each lane's cycle counter and the group's one offset counter are 720, passage counts 0, and
-- lane n counts as last released."
unfoldable pub lane_entered : ℕ → ℕ → Lane
lane_entered n i = cond (ltb i n) (lane 1 0 720 0) (lane 0 0 0 0)

unfoldable pub lanes_entered : ℕ → Lanes
lanes_entered n = each_lane (lane_entered n) 720 n
