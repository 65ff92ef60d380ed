-- What was written is the poll's record, and lies within the buffer.
use mathlib.Core.Bool.{cond}
use mathlib.Core.List.{[]}
use Rattle.std.specs.Option.{is_some}
use Rattle.replay_lines.proofs.PollLaws.{written_front, written_fits, poll_most}
use Rattle.poll.specs.Poll.{poll_of, refusal_of}
use Rattle.replay_lines.specs.Answer.{polled_text}
use lib.Seq.{length-take-le}
use lib.ListN.{length, take, replicate}
use Prim.Native.Nat.{◌≤◌}
use mathlib.Core.Path.{◌≡◌, sym}
use native.Mathlib.Omega.{arith}
use Rattle.replay_lines.proofs.answer.put_poll.Goals as goal
use Rattle.replay_lines.proofs.answer.put_poll.Goals.{After-unwrap_or-n}

written-fits : (c : After-unwrap_or-n) → c.unwrap_or-n.result ≤ length c.poll.new.out
written-fits c = rw (c.poll.auto.out, c.unwrap_or-n.ensures, c.poll.ensures.answer) (written_fits _ _ _)

pub slice_bounds-bytes-end : goal.slice_bounds-bytes-end
slice_bounds-bytes-end c = written-fits (goal.at.slice_bounds-bytes-end c).After-unwrap_or-n

pub slice_bounds-put_poll-end : goal.slice_bounds-put_poll-end
slice_bounds-put_poll-end c = sym (length-take-le _ _ (written-fits (goal.at.slice_bounds-put_poll-end c).After-unwrap_or-n))

pub returns : goal.returns
unfolding polled_text
returns c =
    let a = c.args in
    let front = written_front (refusal_of a.site a.state) (poll_of a.site a.state) (replicate 64 0) (λ h. omega (arith, poll_most a.site a.state h)) in
    let written : take c.unwrap_or-n.result c.poll.new.out ≡ cond (is_some (refusal_of a.site a.state)) [] (poll_of a.site a.state) = rw (c.unwrap_or-n.ensures, c.poll.ensures.answer, c.poll.ensures.buffer) front in
    rw (← written) c.put_poll.ensures
