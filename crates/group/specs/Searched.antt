-- Document 02, A5, of one tick, at a site and in a state that are not spoilt: the lane that it releases, 0 for none, for the one cycle that
-- it works out. `g` is the group as the tick begins; `moved` is the group as it leaves it, and the lane.
use Rattle.std.specs.Prelude.{ℕ, ◌≤◌, ◌≡◌, true, false}
use Rattle.timings.specs.declared.Timings.{Timings}
use Rattle.inputs.specs.declared.Metered.{Metered}
use Rattle.lanes.specs.declared.Lanes.{Lanes}
use Rattle.release.specs.Found.{Found}
use Rattle.bypass.specs.Found.{FoundFor}
use Rattle.group.specs.declared.Group.{Group}
use Rattle.group.specs.declared.Moved.{Moved}
use Rattle.group.specs.Group.{lanes_moved}

-- The lanes as the release meets them, this tick's lane intervals done, of a tick from g to g'.
abbrev pub before_release : Timings → Metered → Group → Group → Lanes
before_release t samples g g' = lanes_moved t g'.interval g'.bypass samples g

pub record Searched (t : Timings) (cycle : ℕ) (samples : Metered) (g : Group) (moved : Moved) : Type 0 where
  -- A release comes "in interval 7 alone".
  pub outside : (moved.group.interval ≡ 7 → ⊥) → moved.released ≡ 0
  -- There, with no bypass kept, the tick done, the lane is what the search finds for this cycle;
  pub found : moved.group.interval ≡ 7 → moved.group.bypass.kept ≡ false
      → Found t cycle samples.demand (before_release t samples g moved.group) moved.released
  -- with one kept it is the priority lane or none, whatever the cycle.
  pub bypass : moved.group.bypass.kept ≡ true → FoundFor t (before_release t samples g moved.group) moved.released
  -- Where a lane is released the cycle is one of 20 to 720. (Metering may be entered under any wish, and then there may be no cycle.)
  pub in_range : (moved.released ≡ 0 → ⊥) → (20 ≤ cycle) × (cycle ≤ 720)
