-- The three outcomes of a write.
use native.Mathlib.Omega.{arith}
use mathlib.Core.Path.{◌≡◌, ap, sym, ◌∙◌}
use Prim.Native.Nat.{◌≤◌}
use lib.ListN.{length}
use Rattle.std.specs.Prelude.{None, Ok}
use Rattle.output.proofs.OutputLaws.{earlier_refused, too_small, accepted}
use Rattle.poll.specs.Poll.{poll_of, refusal_of}
use Rattle.site.specs.Named.{metered_lanes, mainline_lanes}
use Rattle.poll.proofs.PollLaws.{length_poll, site_sound}
use Rattle.output.proofs.SetsLaws.{over_front}
use Rattle.site.proofs.TimingLaws.{timings_good}
use Rattle.poll.proofs.poll.Goals as goal
use Rattle.poll.proofs.poll.Goals.{After-record_size-size, In_default}

not_refused : (c : In_default) → refusal_of c.args.site c.args.state ≡ None
not_refused c = sym c.refusal.ensures ∙ c.in_default.is

-- The size that was computed is the record's.
is-size : (c : After-record_size-size) → c.record_size-size.result ≡ length (poll_of c.args.site c.args.state)
is-size c =
    let a = c.args in
    c.record_size-size.ensures ∙ rw c.shape_of-shape.ensures (sym (length_poll a.state.periods (metered_lanes a.site) (mainline_lanes a.site)))

pub returns-in-Some : goal.returns-in-Some
returns-in-Some c =
    let a = c.args in
    let o = earlier_refused c.in-Some.refused (poll_of a.site a.state) a.out.now in
    rw (← c.refusal.ensures, c.in-Some.is) (record { answer = o.answers; buffer = o.leaves })

pub returns-then-out-size : goal.returns-then-out-size
returns-then-out-size c =
    let a = c.args in
    let o = too_small (poll_of a.site a.state) a.out.now (omega (arith, is-size (goal.at.returns-then-out-size c).After-record_size-size)) in
    rw (not_refused (goal.at.returns-then-out-size c).In_default) (record { answer = o.answers; buffer = o.leaves })

pub store_record-requires : goal.store_record-requires
store_record-requires c =
    let a = c.args in
    let ok = site_sound a.site a.state (not_refused (goal.at.store_record-requires c).In_default) in
    rw c.shape_of-shape.ensures
    ((timings_good a.site ok).lanes_most, omega (arith, rw c.shape_of-shape.ensures at c.record_size-size.ensures))

pub returns : goal.returns
returns c =
    let a = c.args in
    let text = poll_of a.site a.state in
    let fits : length text ≤ length a.out.now = omega (arith, is-size (goal.at.returns c).After-record_size-size) in
    let o = accepted text a.out.now fits in
    rw (not_refused (goal.at.returns c).In_default) (record { answer = ap Ok (is-size (goal.at.returns c).After-record_size-size) ∙ o.answers; buffer = rw (c.store_record.ensures, c.shape_of-shape.ensures, over_front text a.out.now fits) o.leaves })
