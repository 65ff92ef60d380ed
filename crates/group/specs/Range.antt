-- Document 01, 'A state is spoilt if', of the group: "the interval is above 9, the group's age above 36000, a lane's age or cycle counter or
-- the offset counter above 720, a lane's passage count above 3, a lane's colour not 1 to 3, or not 1 outside 7 and 8, .. the last released
-- lane is not 1 to n, .. or anything kept beyond n .. is not 0".
use Rattle.std.specs.Prelude.{ℕ, Bool, cond, not, ◌||◌, ltb, eqb}
use Rattle.loops.specs.Any.{any_from}
use Rattle.lanes.specs.declared.Lane.{Lane}
use Rattle.lanes.specs.declared.Lanes.{Lanes}
use Rattle.lanes.specs.Lanes.{lane_of}
use Rattle.bypass.specs.Range.{bypass_spoilt}
use Rattle.group.specs.declared.Group.{Group}

-- "A lane's colour not 1 to 3, or not 1 outside 7 and 8."
unfoldable pub colour_spoilt : ℕ → ℕ → Bool
colour_spoilt interval colour = cond (eqb interval 7 || eqb interval 8) (ltb colour 1 || ltb 3 colour) (not (eqb colour 1))

unfoldable pub lane_spoilt : ℕ → Lane → Bool
lane_spoilt interval l = ltb 720 l.age || (ltb 720 l.counter || (ltb 3 l.passages || colour_spoilt interval l.colour))

-- "Anything kept beyond n or m is not 0", of a lane.
unfoldable pub lane_kept : Lane → Bool
lane_kept l = ltb 0 l.colour || (ltb 0 l.age || (ltb 0 l.counter || ltb 0 l.passages))

unfoldable pub lane_spoilt_at : ℕ → Lanes → ℕ → ℕ → Bool
lane_spoilt_at interval s n i = cond (ltb i n) (lane_spoilt interval (lane_of s i)) (lane_kept (lane_of s i))

-- The offset counter, the last released lane, and the four lanes.
unfoldable pub lanes_spoilt : ℕ → Lanes → ℕ → Bool
lanes_spoilt interval s n = ltb 720 s.offset || (ltb s.last 1 || (ltb n s.last || any_from (lane_spoilt_at interval s n) 0 4))

-- At a site of n lanes with this priority lane; of the bypass as document 02, A4, says.
unfoldable pub group_spoilt : Group → ℕ → ℕ → Bool
group_spoilt g n priority =
    ltb 9 g.interval
    || (ltb 36000 g.age || (lanes_spoilt g.interval g.lanes n || bypass_spoilt (eqb g.interval 7) priority g.bypass))
