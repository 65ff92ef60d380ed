-- The tick that is asked for a rate is accepted, and its cycle is that of the rate.
use Prim.Native.Nat.{ℕ, zero, suc, ◌≤◌}
use mathlib.Core.Path.{◌≡◌, refl}
use mathlib.Core.Bool.{false}
use native.Mathlib.Omega.{arith}
use borrow.Author.Tests.{le-leb}
use Rattle.site.specs.Record.{spoilt_site}
use Rattle.site.specs.Named.{timings_of, metered_lanes, shape_of}
use Rattle.wanted.specs.Wish.{source_of, choice_of}
use Rattle.wanted.specs.Decision.{command_in_force, decision_of}
use Rattle.release.specs.Cycle.{cycle_ticks}
use Rattle.state.specs.declared.State.{State}
use Rattle.state.specs.State.{state_spoilt, fresh_state}
use Rattle.std.specs.Prelude.{None}
use Rattle.tick.specs.Checks.{input_refusal, tick_refusal}
use Rattle.tick.specs.Tick.{power_up_of, decided_in, cycle_in, accepted_tick, tick_by, tick_of}
use Rattle.worked_runs.proofs.Computing.{computing}
use Rattle.rate_sheet.specs.Sheet.{ramp, asking, first_tick}

sound_ramp : (vehicles : ℕ) → 1 ≤ vehicles → vehicles ≤ 3 → spoilt_site (ramp vehicles) ≡ false
unfolding computing
sound_ramp zero h l = absurd (omega arith)
sound_ramp (suc zero) h l = refl
sound_ramp (suc (suc zero)) h l = refl
sound_ramp (suc (suc (suc zero))) h l = refl
sound_ramp (suc (suc (suc (suc v)))) h l = absurd (omega arith)

fresh_state_lem : (vehicles : ℕ) → state_spoilt (fresh_state (metered_lanes (ramp vehicles))) (shape_of (ramp vehicles)) ≡ false
unfolding computing
fresh_state_lem vehicles = refl

module _ (rate : ℕ) (h : 150 ≤ rate) (l : rate ≤ 1800) where
  sound_input : (vehicles : ℕ) → input_refusal (shape_of (ramp vehicles)) (asking rate) ≡ None
  unfolding computing
  sound_input vehicles = rw (le-leb 150 rate h, le-leb rate 1800 l)

  wished : (vehicles : ℕ) (s : State) → (accepted_tick (ramp vehicles) s (asking rate)).cycle ≡ cycle_ticks vehicles rate
  unfolding accepted_tick cycle_in timings_of decided_in decision_of command_in_force source_of choice_of
  wished vehicles s = refl

  pub asked_cycle : (vehicles : ℕ) → 1 ≤ vehicles → vehicles ≤ 3 → (first_tick vehicles rate).cycle ≡ cycle_ticks vehicles rate
  unfolding first_tick power_up_of tick_of tick_by tick_refusal
  asked_cycle vehicles least most = rw (sound_ramp vehicles least most, fresh_state_lem vehicles, sound_input vehicles) (wished vehicles _)
