-- Document 02, A8: what the levels decide, in whole numbers alone. "Testing [the speed] against a whole threshold agrees always with testing
-- 21960 × vehicles against threshold × milliseconds."
use Rattle.std.specs.Prelude.{ℕ, ◌*◌, Bool, not, ◌&&◌, ◌||◌, ltb, leb, eqb}
use Rattle.ranges.specs.Ranges.{unused}
use Rattle.levels.specs.declared.Level.{Level}
use Rattle.levels.specs.declared.measure.Totals.{Totals}
use Rattle.levels.specs.Measures.{flow_over, occupancy_over}
use Rattle.levels.specs.Levels.{reaches_of}

-- A speed threshold in use is met by the good lanes' totals: vehicles were timed, and 21960 × them is at most the threshold × their
-- milliseconds. Nothing carried over stands in it.
unfoldable pub slow_by_counts : ℕ → Totals → Bool
slow_by_counts threshold t = not (eqb threshold unused) && (ltb 0 t.timed && leb (21960 * t.timed) (threshold * t.millis))

-- A level is met; flow and occupancy are whole numbers as they are.
unfoldable pub met_by_counts : Level → Totals → Bool
met_by_counts l t =
    reaches_of l.flow (flow_over t) || (reaches_of l.occupancy (occupancy_over t) || slow_by_counts l.speed t)

-- A level of the table asked for that is met.
unfoldable pub decides_by_counts : Level → ℕ → Totals → Bool
decides_by_counts l table t = eqb l.table table && met_by_counts l t
