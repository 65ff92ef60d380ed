-- The poll record's room: what a poll writes stands at the front of its buffer, whole. And behind a completed period the poll is never refused.
use Prim.Native.Nat.{ℕ, ◌≤◌}
use mathlib.Core.Path.{◌≡◌, refl, sym, ◌∙◌}
use mathlib.Core.Bool.{Bool, true, false, cond, true≢false}
use mathlib.Core.List.{List, []}
use native.Mathlib.Omega.{arith}
use Rattle.std.specs.Prelude.{Option, Some, None, Result, Ok, Err}
use Rattle.std.specs.Result.{result_unwrap_or}
use Rattle.output.proofs.OutputLaws.{count_fits}
use Rattle.std.specs.Option.{is_some}
use Rattle.refusals.specs.declared.Refusal.{Refusal}
use Rattle.loops.proofs.Cases.{by_test}
use borrow.Author.Tests.{eqb-true, ne_eqb, le-ltb}
use lib.Dec.{ltb, eqb}
use lib.ListN.{length, take, drop}
use lib.Seq.{take-append_seam}
use Rattle.output.specs.Output.{answer_of, buffer_of}
use Rattle.site.specs.declared.Site.{Site}
use Rattle.site.specs.Named.{metered_lanes, mainline_lanes, shape_of}
use Rattle.site.proofs.TimingLaws.{timings_good}
use Rattle.lane_speeds.specs.declared.KeptSpeeds.{KeptSpeeds}
use Rattle.period.specs.declared.Counts.{Counts}
use Rattle.period.specs.declared.Periods.{Periods}
use Rattle.period.specs.Counting.{closed_of, after_tick, after_release}
use Rattle.period.proofs.RangeLaws.{next_some}
use Rattle.state.specs.declared.State.{State}
use Rattle.state.proofs.StateLaws.{good_state}
use Rattle.tick.specs.declared.Input.{Input}
use Rattle.tick.specs.Checks.{tick_refusal}
use Rattle.tick.specs.Tick.{counted_in, accepted_tick, refused_tick, tick_by, tick_of}
use Rattle.tick.proofs.TickLaws.{accepted, tick_keeps}
use Rattle.poll.specs.Poll.{poll_of, refusal_of}
use Rattle.poll.proofs.PollLaws.{length_poll, site_sound}
use Rattle.readings.specs.Readings.{readings_of, readings_by, read_of}
use Rattle.replay_lines.specs.Answer.{completes, polled_text, speeds_text, PeriodPolled}

-- What the test for a refusal tells.
pub absent : {A : Type 0} (o : Option A) → is_some o ≡ false → o ≡ None
absent None e = refl
absent (Some a) e = absurd (true≢false e)

pub written_front : (earlier : Option Refusal) (text d : List ℕ) → (earlier ≡ None → length text ≤ length d)
    → take (result_unwrap_or (answer_of earlier text d) 0) (buffer_of earlier text d) ≡ cond (is_some earlier) [] text
unfolding answer_of buffer_of
written_front None text d h = rw (le-ltb _ _ (h refl)) (take-append_seam text (drop (length text) d))
written_front (Some refusal) text d h = refl

-- It lies within the buffer.
pub written_fits : (earlier : Option Refusal) (text d : List ℕ) → result_unwrap_or (answer_of earlier text d) 0 ≤ length d
written_fits earlier text d = fits _ refl
  where
    fits : (r : Result ℕ Refusal) → answer_of earlier text d ≡ r → result_unwrap_or r 0 ≤ length d
    fits (Ok count) e = count_fits earlier text d e
    fits (Err refusal) e = omega arith

-- No poll record has more than 60 bytes.
pub poll_most : (x : Site) (s : State) → refusal_of x s ≡ None → length (poll_of x s) ≤ 60
poll_most x s h =
    let good = timings_good x (site_sound x s h) in
    omega (arith, length_poll s.periods (metered_lanes x) (mainline_lanes x), good.lanes_most, good.mainline_most)

-- A period that a tick closes has a serial from 1 on, and a green that begins at that tick leaves it.
closed_case : (p : Periods) (c : Counts) (k : KeptSpeeds) (b : Bool) → ltb p.ticks 299 ≡ b → (closed_of p c k).ticks ≡ 0 → 1 ≤ (closed_of p c k).serial
unfolding closed_of
closed_case p c k true e z = let y = rw e at z in absurd (omega arith)
closed_case p c k false e z = rw e (next_some p.serial)

released_case : (p : Periods) (released : ℕ) (a b : Bool) → eqb released 0 ≡ a → eqb p.ticks 0 ≡ b
    → ((after_release p released).ticks ≡ p.ticks) × ((after_release p released).serial ≡ p.serial)
unfolding after_release
released_case p released true b ea eb = (rw ea, rw ea)
released_case p released false true ea eb = (rw (ea, eb), rw (ea, eb))
released_case p released false false ea eb = (rw (ea, eb), rw (ea, eb))

module _ (x : Site) (s : State) (i : Input) where
  some_serial : (accepted_tick x s i).state.periods.ticks ≡ 0 → 1 ≤ (accepted_tick x s i).state.periods.serial
  unfolding accepted_tick counted_in after_tick
  some_serial z =
      let r = released_case (counted_in x s i) (accepted_tick x s i).released _ _ refl refl in
      rw r.1 (closed_case s.periods _ _ _ refl (sym r.0 ∙ z))

  -- An accepted tick: its site is not spoilt, and its state is in range.
  polled_accepted : tick_refusal x s i ≡ None → (accepted_tick x s i).state.periods.ticks ≡ 0 → refusal_of x (accepted_tick x s i).state ≡ None
  unfolding refusal_of
  polled_accepted e z =
      let a = accepted x s i e in
      let h = some_serial z in
      rw (a.site, good_state (accepted_tick x s i).state (shape_of x) (tick_keeps x s i a), ne_eqb (accepted_tick x s i).state.periods.serial 0 (λ y. omega arith))

  -- A tick that completes a period is an accepted one.
  completed_case : (r : Option Refusal) → tick_refusal x s i ≡ r → completes (tick_by x s i r) ≡ true → refusal_of x (tick_by x s i r).state ≡ None
  unfolding completes tick_by accepted_tick refused_tick
  completed_case None e h =
      by_test (eqb (accepted_tick x s i).state.periods.ticks 0)
      (λ t. polled_accepted e (eqb-true _ _ t))
      (λ t. absurd (true≢false (sym (rw t at h))))
  completed_case (Some r) e h = absurd (true≢false (sym h))

  pub period_polled : completes (tick_of x s i) ≡ true → refusal_of x (tick_of x s i).state ≡ None
  unfolding tick_of
  period_polled h = completed_case _ refl h

pub periods_polled : (x : Site) → PeriodPolled x
unfolding PeriodPolled polled_text speeds_text read_of readings_by readings_of
periods_polled x s i h =
    let e = period_polled x s i h in
    (rw e, rw e)
