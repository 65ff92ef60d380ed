-- 11 is answered only where the output is shorter than the records: a record has more bytes than its tick lays, so that what is left of an
-- output as long as the records has room for each.
use Prim.Native.Nat.{ℕ, zero, suc, ◌+◌, ◌-◌, ◌≤◌, ◌<◌}
use mathlib.Core.Path.{◌≡◌, refl, sym, ◌∙◌, ap}
use mathlib.Core.Bool.{Bool, true, false, cond}
use mathlib.Core.List.{List, [], ◌∷◌}
use native.Mathlib.Omega.{arith}
use borrow.Author.Tests.{le-ltb}
use Rattle.std.specs.Prelude.{Option, Some, None}
use Rattle.std.specs.Option.{is_none}
use Rattle.std.proofs.lemmas.Option.{none-some}
use Rattle.refusals.specs.declared.Refusal.{Refusal}
use Rattle.refusals.specs.declared.Refusal.TheVariants.{SmallBuffer, BadRecord, BadClock, BadSample, BadCommand, SpoiltState, SpoiltSite}
use lib.ListN.{length, take, drop, length-drop, length-take}
use Rattle.loops.proofs.Cases.{by_test}
use Rattle.site.specs.declared.Site.{Site}
use Rattle.site.specs.Record.{spoilt_site}
use Rattle.site.specs.Named.{metered_lanes, mainline_lanes, shape_of}
use Rattle.calendar.specs.Clock.{clock_bad}
use Rattle.inputs.specs.Commands.{commands_bad}
use Rattle.state.specs.declared.State.{State}
use Rattle.state.specs.State.{state_spoilt}
use Rattle.tick.specs.declared.Input.{Input}
use Rattle.tick.specs.Checks.{sample_bad, input_refusal, tick_refusal}
use Rattle.tick_record.specs.Record.{record_size, is_record}
use Rattle.tick_record.proofs.RecordLaws.{is_whole}
use Rattle.many_ticks.specs.Many.{records_at, input_at, ticked_at, record_refusal, Run, run_from, run_of}
use Rattle.many_ticks.proofs.StepLaws.{none_is, some_is, taken, ticked_refusal}
use Rattle.many_ticks.proofs.RunLaws.{at_end, at_refused, at_accepted}

-- A check that answers another refusal than 11, before checks that do not answer it either.
other : (b : Bool) (k : Refusal) (rest : Option Refusal) → (k ≡ SmallBuffer → ⊥) → (rest ≡ Some SmallBuffer → ⊥) → cond b (Some k) rest ≡ Some SmallBuffer → ⊥
other true k rest h g e = h (cc)
other false k rest h g e = g e

-- The single tick never answers 11.
never_eleven : (x : Site) (s : State) (i : Input) → tick_refusal x s i ≡ Some SmallBuffer → ⊥
unfolding tick_refusal input_refusal
never_eleven x s i =
    other (spoilt_site x) SpoiltSite _ (λ e. cc)
    (other (state_spoilt s (shape_of x)) SpoiltState _ (λ e. cc)
    (other (clock_bad i.clock) BadClock _ (λ e. cc)
    (other (sample_bad (shape_of x) i) BadSample _ (λ e. cc) (other (commands_bad i.manual i.centre) BadCommand None (λ e. cc) (none-some SmallBuffer)))))

module _ (x : Site) where
  abbrev size : ℕ
  size = record_size (metered_lanes x) (mainline_lanes x)

  wide : metered_lanes x + 1 ≤ size
  unfolding record_size
  wide = omega arith

  record_room : (s : State) (room : ℕ) (r : List ℕ) → length r ≤ room → record_refusal x s room r ≡ Some SmallBuffer → ⊥
  unfolding record_refusal
  record_room s room r h e =
      by_test (is_record r (metered_lanes x) (mainline_lanes x))
      (λ a. let long = is_whole r (metered_lanes x) (mainline_lanes x) a in
      let fits = le-ltb room (metered_lanes x + 1) (omega (arith, long, wide)) in
      never_eleven x s (input_at x r) (sym (ticked_refusal x s r) ∙ (rw (a, fits) at e)))
      (λ a. let z : ◌≡◌ {A = Option Refusal} (Some BadRecord) (Some SmallBuffer) = rw a at e in cc)

  run_room : (k : ℕ) (b : List ℕ) (s : State) (room : ℕ) → length b ≤ k → length b ≤ room → (run_from x s room (records_at x b)).refusal ≡ Some SmallBuffer → ⊥
  run_room zero b s room short enough e =
      let none : length b ≡ 0 = omega arith in
      none-some SmallBuffer (sym (ap (λ (r : Run). r.refusal) (at_end x s room b none)) ∙ e)
  run_room (suc k) [] s room short enough e =
      none-some SmallBuffer (sym (ap (λ (r : Run). r.refusal) (at_end x s room [] refl)) ∙ e)
  run_room (suc k) (y ∷ b) s room short enough e =
      let c = y ∷ b in
      let r = take size c in
      let cut : length r ≤ length c = omega (arith, length-take size c) in
      let more : 0 < length c = omega arith in
      by_test (is_none (record_refusal x s room r))
      (λ t. let yes' = none_is (record_refusal x s room r) t in
      let w = taken x s r room yes' in
      let rest = length-drop size c in
      run_room k (drop size c) (ticked_at x s r).state (room - (metered_lanes x + 1)) (omega (arith, rest, w.whole, cut, wide)) (omega (arith, rest, w.whole, cut, wide, enough))
      (sym (ap (λ (q : Run). q.refusal) (at_accepted x s room c more yes')) ∙ e))
      (λ t. let no' = some_is (record_refusal x s room r) t in
      record_room s room r (omega (arith, cut, enough)) (sym (ap (λ (q : Run). q.refusal) (at_refused x s room c more no')) ∙ e))

  pub room_enough : (s : State) (b : List ℕ) (room : ℕ) → length b ≤ room → (run_of x s b room).refusal ≡ Some SmallBuffer → ⊥
  unfolding run_of
  room_enough s b room enough e =
      by_test (spoilt_site x)
      (λ a. let z : ◌≡◌ {A = Option Refusal} (Some SpoiltSite) (Some SmallBuffer) = rw a at e in cc)
      (λ a. by_test (state_spoilt s (shape_of x))
      (λ g. let z : ◌≡◌ {A = Option Refusal} (Some SpoiltState) (Some SmallBuffer) = rw (a, g) at e in cc)
      (λ g. run_room (length b) b s room (omega arith) enough (rw (a, g) at e)))
