-- What was written lies within the buffer.
use Rattle.output.proofs.OutputLaws.{count_fits}
use Rattle.std.proofs.Common.{◌≤◌, length, sym, ◌∙◌, length-take-le}
use Rattle.simulated_day.proofs.with_poll.Goals as goal
use Rattle.simulated_day.proofs.with_poll.Goals.{In-Ok}

written-fits : (c : In-Ok) → c.in-Ok.count ≤ length c.poll.new.out
written-fits c = rw c.poll.auto.out (count_fits _ _ _ (sym c.poll.ensures.answer ∙ c.in-Ok.is))

pub slice_bounds-out-end : goal.slice_bounds-out-end
slice_bounds-out-end c = written-fits (goal.at.slice_bounds-out-end c).In-Ok

pub slice_bounds-with_bytes-end : goal.slice_bounds-with_bytes-end
slice_bounds-with_bytes-end c = sym (length-take-le _ _ (written-fits (goal.at.slice_bounds-with_bytes-end c).In-Ok))
