-- Document 02, A1: "from any other interval the group advances by the ordinary path to pre-metering green", and how long that takes at the
-- most.
use Rattle.std.specs.Prelude.{ℕ, ◌+◌, max}
use Rattle.timings.specs.declared.Timings.{Timings}

-- From the call's first tick on: through the startup's four times and the tick that turns metering to closing, or through a whole green and
-- yellow of a lane that was just released, whichever is longer; then the tick that finds all lanes red, and shutdown red. Initialization's
-- 50 ticks are fewer.
unfoldable pub clearing_ticks : Timings → ℕ
clearing_ticks t =
    max (t.warning + t.startgreen + t.startyellow + t.startred + 1) (t.maxgreen + t.yellow) + 1 + t.shutdown
