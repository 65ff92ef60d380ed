-- Document 01, 'A state is spoilt if', 'Group intervals', 'Refusals': the controller's state.
use Rattle.std.specs.Prelude.{ℕ, Bool, ◌||◌, replicate}
use Rattle.timings.specs.declared.Shape.{Shape}
use Rattle.lanes.specs.Lanes.{lanes_entered}
use Rattle.bypass.specs.Range.{no_bypass}
use Rattle.group.specs.Range.{group_spoilt}
use Rattle.period.specs.Range.{periods_spoilt}
use Rattle.period.specs.Counts.{no_periods}
use Rattle.state.specs.declared.State.{State}

-- 13, at a site of this shape.
unfoldable pub state_spoilt : State → Shape → Bool
state_spoilt s h = group_spoilt s.group h.lanes h.priority || periods_spoilt s.periods h.lanes h.mainline

-- "Power-up begins 0 at age 0, lanes as on entering 7, all counts and the serial 0"; no bypass.
unfoldable pub fresh_state : ℕ → State
fresh_state n = record { group = record { interval = 0; age = 0; lanes = lanes_entered n; bypass = no_bypass }; periods = no_periods }

-- "Refused, it gives an all-zero state."
unfoldable pub zero_state : State
zero_state = record {
  group = record {
    interval = 0;
    age = 0;
    lanes = record {
      colours = replicate 4 0;
      ages = replicate 4 0;
      counters = replicate 4 0;
      passages = replicate 4 0;
      offset = 0;
      last = 0;
    };
    bypass = no_bypass;
  };
  periods = no_periods;
}
