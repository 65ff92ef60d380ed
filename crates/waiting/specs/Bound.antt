-- Demand 3: a metering green of a waiting lane begins "at one of the run's first max(C, G + Y + R) + (n - 1) × S ticks, where G is the
-- maximum green, Y the yellow, R the minimum red and n the number of lanes".
use Rattle.std.specs.Prelude.{ℕ, ◌+◌, ◌-◌, ◌*◌, max, cond, eqb}
use Rattle.timings.specs.declared.Timings.{Timings}
use Rattle.rounding.specs.Up.{rounded_up}

-- "S is G under mutual exclusion, and C ÷ n rounded up under fractional offset."
unfoldable pub turn_ticks : Timings → ℕ → ℕ
turn_ticks t c = cond (eqb t.mode 1) (rounded_up c t.lanes) t.maxgreen

-- The most ticks that a lane waits while no cycle exceeds c.
unfoldable pub waiting_bound : Timings → ℕ → ℕ
waiting_bound t c = max c (t.maxgreen + t.yellow + t.minred) + (t.lanes - 1) * turn_ticks t c
