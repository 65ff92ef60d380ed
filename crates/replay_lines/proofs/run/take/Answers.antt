-- The loop's invariant: the run and the output are those of the bytes so far, the output lies within the buffer, and no line has been no
-- tick.
use Prim.Native.Nat.{◌+◌, ◌≤◌, ◌<◌}
use mathlib.Core.Path.{◌≡◌, refl, sym, ◌∙◌}
use mathlib.Core.Bool.{false}
use lib.ListN.{length}
use native.Mathlib.Omega.{arith}
use borrow.Author.Rules.{rules}
use borrow.Author.Tests.{not-true, not-false}
use Rattle.tick_line.specs.Scan.{line_start}
use Rattle.text.specs.Put.{farthest}
use Rattle.replay_lines.specs.Replay.{with_scan}
use Rattle.replay_lines.proofs.ReplayLaws.{Reached, reached_start, reached_in, reached_line, reached_same, reached_end, fresh_line, no_room}
use Rattle.replay_lines.proofs.LengthLaws.{fits_in}
use Rattle.replay_lines.proofs.PollLaws.{periods_polled}
use Rattle.replay_lines.proofs.run.take.Goals as goal
use Rattle.replay_lines.proofs.run.take.Goals.{After-after_line-run}

-- Behind a line.
module _ (c : After-after_line-run) where
  below_line : c.loop-at.at < length c.args.bytes.now
  below_line = search rules

  short_line : length c.args.out.now < farthest
  short_line = search rules

  same_room : length c.add_line-end.new.out ≡ length c.args.out.now
  same_room = rw c.add_line-end.auto.out c.loop-at.invariant.2

  behind_line : Reached c.args.site c.args.first c.args.bytes.now c.args.out.now (c.loop-at.at + 1) c.after_line-run.result c.add_line-end.result c.add_line-end.new.out
  unfolding with_scan
  behind_line =
      let a = c.args in
      reached_same a.site (rw (c.line_of-line.ensures, c.with_scan-whole.ensures) at c.after_line-run.ensures)
      (reached_line a.site c.loop-at.invariant.4 below_line c.loop-at.invariant.1 c.if-b-ne10.false short_line (rw (c.line_of-line.ensures, c.with_scan-whole.ensures) at c.add_line-end.ensures.is))

  answer_fits : c.add_line-end.result ≤ length c.args.out.now
  answer_fits =
      rw c.loop-at.invariant.2 at (fits_in _ c.add_line-end.ensures.is c.add_line-end.ensures.short (sym c.has_room.ensures ∙ not-false _ c.if-not-has_room.false-raw))

  line_begins : with_scan c.after_line-run.result line_start false ≡ c.after_line-run.result
  line_begins = rw c.after_line-run.ensures (fresh_line _ _)

pub returns-then-first : goal.returns-then-first
returns-then-first c = let a = c.args in let r = reached_end a.site (reached_start a.site a.first a.bytes.now a.out.now) c.if-first.true in (record { is = r.is; adds = r.adds; part = search rules; goes = λ _ h. h; fits = omega arith; polled = periods_polled _ })

pub loop-at-init : goal.loop-at-init
unfolding with_scan
loop-at-init c = (search rules, c.if-first.false, search rules, λ _. refl, reached_start _ _ _ _, omega arith)

pub loop-at-preserved-then-b-ne10 : goal.loop-at-preserved-then-b-ne10
unfolding with_scan
loop-at-preserved-then-b-ne10 c =
    let a = c.args in
    let next = reached_in a.site c.loop-at.invariant.4 (search rules) c.loop-at.invariant.1 c.if-b-ne10.true in
    (search rules, c.loop-at.invariant.1, search rules, λ z. absurd (omega (arith, z)), rw c.after_byte-scan.ensures next, c.loop-at.invariant.5)

pub returns-then-not-has_room : goal.returns-then-not-has_room
returns-then-not-has_room c =
    let r = rw (← c.with_scan-whole.ensures) at c.loop-at.invariant.4 in (record { is = r.is; adds = r.adds; part = search rules; goes = λ big _. no_room _ _ _ (sym c.has_room.ensures ∙ not-true _ c.if-not-has_room.true-raw) c.loop-at.invariant.3 (omega (arith, big, c.loop-at.invariant.2)); fits = c.loop-at.invariant.5; polled = periods_polled _ })

pub shape_of-out-then-run : goal.shape_of-out-then-run
shape_of-out-then-run c = same_room (goal.at.shape_of-out-then-run c).After-after_line-run

pub returns-then-run : goal.returns-then-run
returns-then-run c = let r = reached_end _ (behind_line (goal.at.returns-then-run c).After-after_line-run) c.if-run.true in (record { is = r.is; adds = r.adds; part = search rules; goes = λ _ h. h; fits = answer_fits (goal.at.returns-then-run c).After-after_line-run; polled = periods_polled _ })

pub overflow_add-at-in-loop-at : goal.overflow_add-at-in-loop-at
overflow_add-at-in-loop-at c = search rules

pub loop-at-smaller : goal.loop-at-smaller
loop-at-smaller c = omega arith

pub loop-at-preserved : goal.loop-at-preserved
loop-at-preserved c = (
  omega (arith, below_line (goal.at.loop-at-preserved c).After-after_line-run),
  c.if-run.false,
  same_room (goal.at.loop-at-preserved c).After-after_line-run,
  λ z. absurd (omega (arith, z)),
  reached_same _ (rw c.line_start-scan.ensures (line_begins (goal.at.loop-at-preserved c).After-after_line-run)) (behind_line (goal.at.loop-at-preserved c).After-after_line-run),
  answer_fits (goal.at.loop-at-preserved c).After-after_line-run,
)

pub returns : goal.returns
returns c =
    let r = rw (← c.with_scan.ensures) at c.loop-at.invariant.4 in (record { is = r.is; adds = r.adds; part = search rules; goes = λ _ some. search rules; fits = c.loop-at.invariant.5; polled = periods_polled _ })
