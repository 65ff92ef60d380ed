-- Document 02, A4, for the bus operator: how long a bypass waits at the most until its lane is green.
use Rattle.std.specs.Prelude.{ℕ, ◌+◌, max, cond, ltb}
use Rattle.timings.specs.declared.Timings.{Timings}

-- Through a minimum green and the yellow of another lane that was just released, where there is one;
unfoldable pub others_ticks : Timings → ℕ
others_ticks t = cond (ltb 1 t.lanes) (t.mingreen + t.yellow) 0

-- or through the yellow and the minimum red of the priority lane where that has just turned yellow, whichever is longer. From the bypass's
-- first tick on.
unfoldable pub serving_ticks : Timings → ℕ
serving_ticks t = max (others_ticks t) (t.yellow + t.minred)
