-- Document 02, A4: what is kept of a bus bypass, and what one tick makes of it. `metering` says that the group, this tick's change of
-- interval done, is in metering, "the tick that enters it included"; `call` is the bypass sample; `passed` says that a vehicle has passed
-- the green priority lane.
use Rattle.std.specs.Prelude.{ℕ, ◌+◌, ◌*◌, Bool, cond, not, ◌&&◌, ◌||◌, ltb, leb, eqb}
use Rattle.timings.specs.declared.Timings.{Timings}
use Rattle.bypass.specs.declared.Bypass.{Bypass}

-- The timer one tick later: it "stops at 2550".
unfoldable pub later_of : ℕ → ℕ
later_of timer = cond (ltb timer 2550) (timer + 1) 2550

-- "The timeout is ten ticks a second after the call's first tick in metering", "0 for never".
unfoldable pub is_time_up : ℕ → ℕ → Bool
is_time_up timeout timer = not (eqb timeout 0) && leb (10 * timeout) timer

-- Where none is kept, a bypass begins with "a call" "in metering". "Another bypass needs an accepted tick without the call first"; "a call
-- that brings no bypass, for that reason or because the priority lane is 0, does nothing".
unfoldable pub begins_at : Timings → Bool → ℕ → Bool → Bool
begins_at t metering call mark = not mark && (not (eqb t.priority 0) && (eqb call 1 && metering))

-- "The bypass ends .. at its first passage while green under it .., when the call goes, at the timeout, or at closing."
unfoldable pub ends_at : Timings → Bool → ℕ → Bool → ℕ → Bool
ends_at t metering call passed timer = passed || (not (eqb call 1) || (is_time_up t.timeout (later_of timer) || not metering))

-- Whether one is kept, the tick done.
unfoldable pub kept_of : Timings → Bool → ℕ → Bool → Bypass → Bool
kept_of t metering call passed b = cond b.kept (not (ends_at t metering call passed b.timer)) (begins_at t metering call b.mark)

-- The mark stands from a bypass's first tick on while the call is on.
unfoldable pub mark_of : Bool → Bool → Bypass → Bool
mark_of on kept b = on && (b.mark || (b.kept || kept))

-- "The timer is 0 while no bypass waits or runs", and at the first tick of one.
unfoldable pub timer_of : Bool → Bypass → ℕ
timer_of kept b = cond kept (cond b.kept (later_of b.timer) 0) 0

unfoldable pub bypass_of : Timings → Bool → ℕ → Bool → Bypass → Bypass
bypass_of t metering call passed b =
    let kept : Bool = kept_of t metering call passed b in
    record { kept = kept; mark = mark_of (eqb call 1) kept b; timer = timer_of kept b }
