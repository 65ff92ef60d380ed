-- Document 02, 'Joining two plan lists', at the tick: where the list stands in a site for its plan, a tick decides and does what it would
-- with the two laid end to end.
use Rattle.std.specs.Prelude.{◌≡◌, false, None}
use Rattle.site.specs.declared.Site.{Site}
use Rattle.site.specs.Record.{spoilt_site}
use Rattle.state.specs.declared.State.{State}
use Rattle.tick.specs.declared.Input.{Input}
use Rattle.tick.specs.declared.Ticked.{Ticked}
use Rattle.tick.specs.Tick.{accepted_tick, tick_of}
use Rattle.joining.specs.declared.PlanList.{PlanList}
use Rattle.joining.specs.EndToEnd.{end_to_end, both_counts}
use Rattle.joining.specs.Decided.{with_plan, with_list, SameButPlace}

-- Two ticks give the same, apart from the place of the entry in force.
pub record SameTick (a b : Ticked) : Type 0 where
  pub refusal : a.refusal ≡ b.refusal
  pub state : a.state ≡ b.state
  pub shown : a.shown ≡ b.shown
  pub decision : SameButPlace a.decision b.decision
  pub cycle : a.cycle ≡ b.cycle
  pub released : a.released ≡ b.released
  pub bypass : a.bypass ≡ b.bypass

pub record SameTicks (first second list : PlanList) : Type 0 where
  -- The list refuses no tick that the site took with its own plan, and lets none pass that the site refused.
  pub refusals : (x : Site) (s : State) (i : Input) → spoilt_site x ≡ false → (tick_of (with_list x list) s i).refusal ≡ (tick_of x s i).refusal
  -- An accepted tick gives what the rules give with the two laid end to end. A plan of more than 16 entries is one that no file gives, and
  -- the check for 14 would refuse it: so the second tick is the one behind the checks.
  pub accepted : (x : Site) (s : State) (i : Input) → (tick_of (with_list x list) s i).refusal ≡ None
      → SameTick (tick_of (with_list x list) s i) (accepted_tick (with_plan x (end_to_end first second) (both_counts first second)) s i)
