-- Two lanes, every timing at its least, metering at a rate: lane 2 is released, and when it is ready again lane 1's turn is first.
use Rattle.std.specs.Prelude.{ℕ, List, [], ◌∷◌, ◌++◌}
use Rattle.tick.specs.declared.Input.{Input}
use Rattle.tick.specs.Course.{Call, Course, at_power_up, course_after}
use Rattle.worked_runs.specs.SiteA.{least_site}
use Rattle.worked_runs.specs.Run.{metering_at, calls}

-- Lane 2 alone in demand.
abbrev pub lane2_at : ℕ → Input
lane2_at rate = metering_at rate (0 ∷ 1 ∷ 0 ∷ 0 ∷ [])

-- In a service mode, lane 2 alone in demand until its release, at tick 102.
abbrev pub released_last : ℕ → ℕ → Course
released_last rate mode = course_after (at_power_up (least_site mode)) (calls (least_site mode) (lane2_at rate) 102)

-- So many ticks more of that, and then so many with lane 1's demand too.
abbrev pub then_both : ℕ → ℕ → ℕ → ℕ → List Call
then_both rate mode alone both =
    calls (least_site mode) (lane2_at rate) alone ++ calls (least_site mode) (metering_at rate (1 ∷ 1 ∷ 0 ∷ 0 ∷ [])) both
