-- What the state keeps of a lane is what the lane's travel times since power-up give: one tick keeps that, and so does a list of them.
use Prim.Native.Nat.{ℕ, ◌+◌, ◌≤◌, ◌<◌}
use mathlib.Core.Path.{◌≡◌, refl, sym, ap, subst, ◌∙◌}
use mathlib.Core.Bool.{true, false, cond}
use mathlib.Core.List.{List, [], ◌∷◌}
use native.Mathlib.Omega.{arith}
use borrow.Author.Tests.{eq-eqb, ne_eqb, lt-ltb, ltb-true, ltb-false}
use lib.Dec.{ltb, eqb}
use lib.ListN.{length, get_or}
use lib.Ieee.{Float}
use Rattle.loops.proofs.Cases.{by_test}
use Rattle.loops.proofs.EachLaws.{at_six}
use Rattle.site.specs.declared.Site.{Site}
use Rattle.site.specs.Record.{spoilt_site}
use Rattle.site.specs.Named.{metered_lanes, mainline_lanes, shape_of}
use Rattle.site.proofs.TimingLaws.{timings_good}
use Rattle.inputs.specs.declared.LaneSample.{LaneSample}
use Rattle.inputs.specs.declared.Metered.{Metered}
use Rattle.inputs.specs.declared.Mainline.{Mainline}
use Rattle.inputs.specs.Samples.{lane_sample_of, lane_bad, travel_time}
use Rattle.speed.specs.Speed.{Timed, no_speed}
use Rattle.lane_speeds.specs.declared.Speeds.{Speeds}
use Rattle.lane_speeds.specs.Speeds.{no_speeds, current_of, last_of, earlier_of, after_vehicle, time_at, speeds_timed, last_measured, speeds_closed}
use Rattle.lane_speeds.proofs.RangeLaws.{time_most}
use Rattle.period.specs.declared.LaneCounts.{LaneCounts}
use Rattle.period.specs.declared.Periods.{Periods}
use Rattle.period.specs.Counts.{lane_of, no_periods}
use Rattle.period.specs.Counting.{timed_of, lane_counted, lane_counted_at, counted_of, closed_of, after_tick, green_counted, after_release}
use Rattle.period.proofs.RangeLaws.{main_bad, PeriodsGood, next_some, last_timed, periods_after}
use Rattle.state.specs.declared.State.{State}
use Rattle.state.specs.State.{fresh_state}
use Rattle.state.proofs.StateLaws.{state_good}
use Rattle.tick.specs.declared.Input.{Input}
use Rattle.tick.specs.Tick.{power_up_of, counted_in, accepted_tick}
use Rattle.tick.specs.Course.{Call, Course, at_power_up, is_accepted, onward, course_after, AtAccepted}
use Rattle.tick.proofs.TickLaws.{Accepted}
use Rattle.tick.proofs.CourseLaws.{Going, start, passed, onward_state, stays, keeps}
use Rattle.readings.specs.SincePowerUp.{Times, no_times, with_tick, time_of, times_after, vehicles_in, millis_in}

-- The newest completed period, and those before it.
abbrev pub newest : List (List ℕ) → List ℕ
newest [] = []
newest (times ∷ before) = times

abbrev pub older : List (List ℕ) → List (List ℕ)
older [] = []
older (times ∷ before) = before

-- The speed that some periods last measured, 0 for none; and a period's two speeds.
abbrev pub last_speed : List (List ℕ) → Float
last_speed [] = no_speed
last_speed (times ∷ before) = last_measured (last_speed before) (vehicles_in times) (millis_in times)

abbrev pub speeds_in : List ℕ → Speeds
speeds_in [] = no_speeds
speeds_in (time ∷ times) = after_vehicle (speeds_in times) time

-- A period's vehicles, where it timed some, are timed ones.
abbrev pub AllTimed : List (List ℕ) → Type 0
AllTimed [] = Unit {0}
AllTimed (times ∷ before) = ((vehicles_in times ≡ 0 → ⊥) → Timed (vehicles_in times) (millis_in times)) × AllTimed before

-- All times are in range.
abbrev pub Short : List ℕ → Type 0
Short [] = Unit {0}
Short (time ∷ times) = (time ≤ 65535) × Short times

-- What is kept of lane j is what its times give.
pub record Fits (j : ℕ) (p : Periods) (h : Times) : Type 0 where
  pub ticks : p.ticks ≡ length h.current
  pub timed : (lane_of p.current j).timed ≡ vehicles_in h.current
  pub millis : (lane_of p.current j).millis ≡ millis_in h.current
  pub current : current_of p.speeds j ≡ speeds_in h.current
  pub last_vehicles : (lane_of p.last j).timed ≡ vehicles_in (newest h.completed)
  pub last_millis : (lane_of p.last j).millis ≡ millis_in (newest h.completed)
  pub last : last_of p.speeds j ≡ speeds_in (newest h.completed)
  pub earlier : earlier_of p.speeds j ≡ last_speed (older h.completed)
  pub none : length h.completed ≡ 0 → p.serial ≡ 0
  pub some : 1 ≤ length h.completed → 1 ≤ p.serial
  pub all_timed : AllTimed h.completed
  pub short : Short h.current
  pub last_short : Short (newest h.completed)

-- A tick's counts of one lane: a lane not working times no vehicle.
lane_timed : (c : LaneCounts) (s : LaneSample)
    → ((lane_counted c s).timed ≡ timed_of (travel_time s) + c.timed) × ((lane_counted c s).millis ≡ travel_time s + c.millis)
unfolding lane_counted travel_time timed_of
lane_timed c s = by_test (eqb s.working 1) (λ e. (rw e (omega arith), rw e (omega arith))) (λ e. (rw e (omega arith), rw e (omega arith)))

become_earlier : (periods : List (List ℕ)) → last_measured (last_speed (older periods)) (vehicles_in (newest periods)) (millis_in (newest periods)) ≡ last_speed periods
unfolding last_measured
become_earlier [] = refl
become_earlier (times ∷ before) = refl

module _ (j : ℕ) (six : j < 6) (p : Periods) (lanes : Metered) (main : Mainline) (n m : ℕ) (J : j < m) (fine : lane_bad (lane_sample_of main j) ≡ false) where
  counted_timed : (lane_of (counted_of p.current lanes main n m) j).timed ≡ timed_of (travel_time (lane_sample_of main j)) + (lane_of p.current j).timed
  unfolding counted_of lane_counted_at
  counted_timed = at_six (λ k. (lane_counted_at p.current main m k).timed) 0 j six ∙ rw (lt-ltb j m J) (lane_timed (lane_of p.current j) (lane_sample_of main j)).0

  counted_millis : (lane_of (counted_of p.current lanes main n m) j).millis ≡ travel_time (lane_sample_of main j) + (lane_of p.current j).millis
  unfolding counted_of lane_counted_at
  counted_millis = at_six (λ k. (lane_counted_at p.current main m k).millis) 0 j six ∙ rw (lt-ltb j m J) (lane_timed (lane_of p.current j) (lane_sample_of main j)).1

  counted_speeds : current_of (speeds_timed p.speeds main m) j ≡ after_vehicle (current_of p.speeds j) (travel_time (lane_sample_of main j))
  unfolding speeds_timed time_at
  counted_speeds = at_six (λ k. after_vehicle (current_of p.speeds k) (time_at main m k)) no_speeds j six ∙ rw (lt-ltb j m J)

  -- The vehicles, milliseconds and speeds of the tick's period.
  module _ (h : Times) (f : Fits j p h) where
    vehicles_then : (lane_of (counted_of p.current lanes main n m) j).timed ≡ vehicles_in (travel_time (lane_sample_of main j) ∷ h.current)
    unfolding timed_of
    vehicles_then = counted_timed ∙ ap (λ (k : ℕ). timed_of (travel_time (lane_sample_of main j)) + k) f.timed

    millis_then : (lane_of (counted_of p.current lanes main n m) j).millis ≡ millis_in (travel_time (lane_sample_of main j) ∷ h.current)
    millis_then = counted_millis ∙ ap (λ (k : ℕ). travel_time (lane_sample_of main j) + k) f.millis

    speeds_then : current_of (speeds_timed p.speeds main m) j ≡ speeds_in (travel_time (lane_sample_of main j) ∷ h.current)
    speeds_then = counted_speeds ∙ ap (λ (s : Speeds). after_vehicle s (travel_time (lane_sample_of main j))) f.current

    -- A tick that is not the period's last.
    goes_on : ltb p.ticks 299 ≡ true → Fits j (after_tick p lanes main n m) (with_tick h (travel_time (lane_sample_of main j)))
    unfolding after_tick closed_of with_tick speeds_timed
    goes_on e =
        let few = ltb-true p.ticks 299 e in
        rw (e, ne_eqb (length h.current) 299 (λ z. omega (arith, f.ticks))) (record {
          ticks = omega (arith, f.ticks);
          timed = vehicles_then;
          millis = millis_then;
          current = speeds_then;
          last_vehicles = f.last_vehicles;
          last_millis = f.last_millis;
          last = f.last;
          earlier = f.earlier;
          none = f.none;
          some = f.some;
          all_timed = f.all_timed;
          short = (time_most (lane_sample_of main j) fine, f.short);
          last_short = f.last_short;
        })

    -- The period's last: what the period completed before it measured has become earlier.
    closes : p.ticks ≤ 299 → ltb p.ticks 299 ≡ false → PeriodsGood (after_tick p lanes main n m) n m
        → Fits j (after_tick p lanes main n m) (with_tick h (travel_time (lane_sample_of main j)))
    unfolding after_tick closed_of with_tick speeds_timed speeds_closed
    closes most e =
        let full = ltb-false p.ticks 299 e in
        rw (e, eq-eqb (length h.current) 299 (omega (arith, f.ticks))) (λ good. record {
          ticks = refl;
          timed = at_six (λ k. 0) 0 j six;
          millis = at_six (λ k. 0) 0 j six;
          current = at_six (λ k. no_speeds) no_speeds j six;
          last_vehicles = vehicles_then;
          last_millis = millis_then;
          last = speeds_then;
          earlier =
              at_six (λ k. last_measured (earlier_of p.speeds k) (get_or p.last.timed k 0) (get_or p.last.millis k 0)) no_speed j six
              ∙ rw (f.earlier, f.last_vehicles, f.last_millis) (become_earlier h.completed);
          none = λ z. absurd (omega arith);
          some = λ _. next_some p.serial;
          all_timed = (
            (λ some.
                subst (λ (v : ℕ). Timed v (millis_in (travel_time (lane_sample_of main j) ∷ h.current))) vehicles_then
                (subst (Timed _) millis_then (last_timed _ n m good j six (λ z. some (sym vehicles_then ∙ z))).1)),
            f.all_timed,
          );
          short = tt;
          last_short = (time_most (lane_sample_of main j) fine, f.short);
        })

    tick_fits : PeriodsGood p n m → PeriodsGood (after_tick p lanes main n m) n m
        → Fits j (after_tick p lanes main n m) (with_tick h (travel_time (lane_sample_of main j)))
    tick_fits before good = by_test (ltb p.ticks 299) goes_on (λ e. closes before.ticks e good)

-- A release touches nothing of this.
same_kept : (j : ℕ) (p q : Periods) (h : Times) → q.ticks ≡ p.ticks → lane_of q.current j ≡ lane_of p.current j → lane_of q.last j ≡ lane_of p.last j
    → q.serial ≡ p.serial → q.speeds ≡ p.speeds → Fits j p h → Fits j q h
same_kept j p q h ticks current last serial speeds f = record {
  ticks = ticks ∙ f.ticks;
  timed = ap (λ (l : LaneCounts). l.timed) current ∙ f.timed;
  millis = ap (λ (l : LaneCounts). l.millis) current ∙ f.millis;
  current = ap (λ k. current_of k j) speeds ∙ f.current;
  last_vehicles = ap (λ (l : LaneCounts). l.timed) last ∙ f.last_vehicles;
  last_millis = ap (λ (l : LaneCounts). l.millis) last ∙ f.last_millis;
  last = ap (λ k. last_of k j) speeds ∙ f.last;
  earlier = ap (λ k. earlier_of k j) speeds ∙ f.earlier;
  none = λ z. serial ∙ f.none z;
  some = λ l. omega (arith, serial, f.some l);
  all_timed = f.all_timed;
  short = f.short;
  last_short = f.last_short;
}

release_fits : (j : ℕ) (p : Periods) (released : ℕ) (h : Times) → Fits j p h → Fits j (after_release p released) h
unfolding after_release green_counted
release_fits j p released h f =
    by_test (eqb released 0) (λ e. rw e f)
    (λ e. by_test (eqb p.ticks 0)
    (λ z. rw (e, z) (same_kept j p _ h refl refl refl refl refl f))
    (λ z. rw (e, z) (same_kept j p _ h refl refl refl refl refl f)))

-- Over a list of ticks since power-up, at one of the site's mainline lanes.
module _ (x : Site) (ok : spoilt_site x ≡ false) (j : ℕ) (J : j < mainline_lanes x) where
  pub is_one_of_six : j < 6
  is_one_of_six = omega (arith, (timings_good x ok).mainline_most)

  abbrev FitsAfter : Course → Times → Type 0
  FitsAfter c h = Fits j c.state.periods h

  accepted_fits : (s : State) (i : Input) (h : Times) → Accepted x s i → Fits j s.periods h
      → Fits j (accepted_tick x s i).state.periods (with_tick h (travel_time (lane_sample_of i.main j)))
  unfolding accepted_tick counted_in
  accepted_fits s i h a f =
      let n = metered_lanes x in
      let m = mainline_lanes x in
      let before = (state_good s (shape_of x) a.state).periods in
      release_fits j (counted_in x s i) (accepted_tick x s i).released _
      (tick_fits j is_one_of_six s.periods i.lanes i.main n m J (main_bad i.lanes i.main n m a.samples j J) h f before (periods_after s.periods i.lanes i.main n m before a.samples))

  one_tick : (c : Course) (call : Call) (h : Times) → Going x ok c → (is_accepted c call ≡ true → call.site ≡ x) → FitsAfter c h
      → FitsAfter (onward c call) (cond (is_accepted c call) (with_tick h (time_of j call)) h)
  one_tick c call h g same f =
      by_test (is_accepted c call)
      (λ e. rw (e, onward_state x ok c call g same e) (accepted_fits c.state call.input h (passed x ok c call g same e) f))
      (λ e. rw (e, stays c call e) f)

  over : (c : Course) (h : Times) (calls : List Call) → Going x ok c → AtAccepted (λ c call. call.site ≡ x) c calls → FitsAfter c h
      → Going x ok (course_after c calls) × FitsAfter (course_after c calls) (times_after j c h calls)
  over c h [] g same f = (g, f)
  over c h (call ∷ calls) g same f = over (onward c call) _ calls (keeps x ok c call g same.0) same.1 (one_tick c call h g same.0 f)

  fresh_fits : FitsAfter (at_power_up x) no_times
  unfolding at_power_up power_up_of fresh_state no_periods
  fresh_fits = rw ok (record {
    ticks = refl;
    timed = at_six (λ k. 0) 0 j is_one_of_six;
    millis = at_six (λ k. 0) 0 j is_one_of_six;
    current = at_six (λ k. no_speeds) no_speeds j is_one_of_six;
    last_vehicles = at_six (λ k. 0) 0 j is_one_of_six;
    last_millis = at_six (λ k. 0) 0 j is_one_of_six;
    last = at_six (λ k. no_speeds) no_speeds j is_one_of_six;
    earlier = at_six (λ k. no_speed) no_speed j is_one_of_six;
    none = λ _. refl;
    some = λ l. absurd (omega arith);
    all_timed = tt;
    short = tt;
    last_short = tt;
  })

  -- The state is in range, and what it keeps of the lane is what the lane's times give.
  pub since_power_up : (ticks : List Call) → AtAccepted (λ c call. call.site ≡ x) (at_power_up x) ticks
      → Going x ok (course_after (at_power_up x) ticks) × FitsAfter (course_after (at_power_up x) ticks) (times_after j (at_power_up x) no_times ticks)
  since_power_up ticks same = over (at_power_up x) no_times ticks (start x ok) same fresh_fits
