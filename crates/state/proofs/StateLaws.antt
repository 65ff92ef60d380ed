-- What it tells of a state that it is in range; power-up's is.
use Prim.Native.Nat.{◌≤◌}
use mathlib.Core.Path.{◌≡◌, refl, sym}
use mathlib.Core.Bool.{false, true≢false}
use native.Mathlib.Omega.{arith}
use Rattle.loops.proofs.AnyLaws.{neither}
use Rattle.timings.specs.declared.Shape.{Shape}
use Rattle.group.specs.Range.{group_spoilt}
use Rattle.group.proofs.RangeLaws.{GroupGood, group_good, good_group, lanes_enter}
use Rattle.period.specs.Range.{periods_spoilt}
use Rattle.period.proofs.RangeLaws.{PeriodsGood, periods_good, good_periods, no_periods_good}
use Rattle.state.specs.declared.State.{State}
use Rattle.state.specs.State.{state_spoilt, fresh_state}

pub record StateGood (s : State) (h : Shape) : Type 0 where
  pub group : GroupGood s.group h.lanes h.priority
  pub periods : PeriodsGood s.periods h.lanes h.mainline

pub state_good : (s : State) (h : Shape) → state_spoilt s h ≡ false → StateGood s h
unfolding state_spoilt
state_good s h e =
    let p = neither (group_spoilt s.group h.lanes h.priority) (periods_spoilt s.periods h.lanes h.mainline) e in
    record { group = group_good s.group h.lanes h.priority p.0; periods = periods_good s.periods h.lanes h.mainline p.1 }

pub good_state : (s : State) (h : Shape) → StateGood s h → state_spoilt s h ≡ false
unfolding state_spoilt
good_state s h g = rw (good_group s.group h.lanes h.priority g.group, good_periods s.periods h.lanes h.mainline g.periods)

pub fresh_good : (h : Shape) → 1 ≤ h.lanes → StateGood (fresh_state h.lanes) h
unfolding fresh_state
fresh_good h least = record {
  group = record {
    interval = omega arith;
    age = omega arith;
    lanes = lanes_enter _ h.lanes least;
    bypass = record { in_metering = λ z. absurd (true≢false (sym z)); some_lane = λ z. absurd (true≢false (sym z)); timer = omega arith; none = λ _. refl };
  };
  periods = no_periods_good h.lanes h.mainline;
}
