-- The reading and the speeds that follow from what is kept are those of the request's words.
use Prim.Native.Nat.{ℕ, zero, suc, ◌≤◌, ◌<◌, max}
use mathlib.Core.Path.{◌≡◌, refl, sym, ap, subst, ◌∙◌}
use mathlib.Core.Bool.{true, false}
use mathlib.Core.List.{List, [], ◌∷◌, ◌++◌}
use native.Mathlib.Omega.{arith}
use borrow.Author.Tests.{eq-eqb, ne_eqb, eqb-true, eqb-false, ltb-true, ltb-false}
use lib.Dec.{ltb, eqb}
use lib.ListN.{length}
use lib.Ieee.{Float, eq}
use Rattle.loops.proofs.Cases.{by_test}
use Rattle.loops.proofs.EachLaws.{at_six}
use Rattle.site.specs.declared.Site.{Site}
use Rattle.site.specs.Record.{spoilt_site}
use Rattle.site.specs.Named.{shape_of}
use Rattle.speed.specs.Speed.{speed_of, Timed, no_speed}
use Rattle.speed.proofs.SpeedLaws.{speed_some}
use Rattle.speed.proofs.SlowerLaws.{one_timed, slower, not_slower}
use Rattle.lane_speeds.specs.Speeds.{no_speeds, slower_of, after_vehicle, last_measured}
use Rattle.lane_speeds.specs.declared.reading.Reading.{Reading}
use Rattle.lane_speeds.specs.declared.reading.Reading.TheVariants.{Absent, Measured, Carried}
use Rattle.lane_speeds.specs.Reading.{reading_of}
use Rattle.period.specs.declared.Periods.{Periods}
use Rattle.period.proofs.RangeLaws.{at_least_one}
use Rattle.state.specs.declared.State.{State}
use Rattle.state.specs.State.{state_spoilt}
use Rattle.state.proofs.StateLaws.{good_state}
use Rattle.refusals.specs.declared.Refusal.TheVariants.{NoPeriod}
use Rattle.poll.specs.Poll.{refusal_of}
use Rattle.tick.specs.Course.{at_power_up}
use Rattle.readings.specs.Readings.{no_reading, lane_reading_of, readings_of, refused_readings, readings_by, read_of, lane_in}
use Rattle.readings.specs.SincePowerUp.{Times, no_times, times_after, vehicles_in, millis_in, longest, speed_over, NoneTimed, Reads, Speaks, Spoken, SincePowerUp}
use Rattle.readings.proofs.TimesLaws.{newest, older, last_speed, speeds_in, AllTimed, Short, Fits, is_one_of_six, since_power_up}

-- The last measured speed is that of the first period that timed a vehicle, or none.
last_of : (none : List (List ℕ)) (times : List ℕ) (before : List (List ℕ)) → NoneTimed none → 1 ≤ vehicles_in times → last_speed (none ++ (times ∷ before)) ≡ speed_over times
unfolding last_measured
last_of [] times before n s = rw (ne_eqb (vehicles_in times) 0 (λ z. omega arith))
last_of (q ∷ none) times before n s = rw (eq-eqb (vehicles_in q) 0 n.0) (last_of none times before n.1 s)

none_last : (periods : List (List ℕ)) → NoneTimed periods → last_speed periods ≡ no_speed
unfolding last_measured
none_last [] n = refl
none_last (q ∷ periods) n = rw (eq-eqb (vehicles_in q) 0 n.0) (none_last periods n.1)

timed_at : (none : List (List ℕ)) (times : List ℕ) (before : List (List ℕ)) → AllTimed (none ++ (times ∷ before)) → 1 ≤ vehicles_in times → Timed (vehicles_in times) (millis_in times)
timed_at [] times before a s = a.0 (λ z. omega arith)
timed_at (q ∷ none) times before a s = timed_at none times before a.1 s

no_speed_is_none : eq no_speed no_speed ≡ true
unfolding eq
no_speed_is_none = refl

-- The reading of a lane with these completed periods.
abbrev reading_in : List (List ℕ) → Reading
reading_in periods = reading_of (vehicles_in (newest periods)) (millis_in (newest periods)) (last_speed (older periods))

is_measured : (times : List ℕ) (before : List (List ℕ)) → 1 ≤ vehicles_in times → reading_in (times ∷ before) ≡ Measured (speed_over times)
unfolding reading_of
is_measured times before s = rw (ne_eqb (vehicles_in times) 0 (λ z. omega arith))

is_carried : (none : List (List ℕ)) (times : List ℕ) (before : List (List ℕ)) → AllTimed (none ++ (times ∷ before)) → 1 ≤ length none → NoneTimed none → 1 ≤ vehicles_in times
    → reading_in (none ++ (times ∷ before)) ≡ Carried (speed_over times)
unfolding reading_of
is_carried [] times before a l n s = absurd (omega arith)
is_carried (q ∷ none) times before a l n s =
    rw (eq-eqb (vehicles_in q) 0 n.0, last_of none times before n.1 s, speed_some (vehicles_in times) (millis_in times) (timed_at none times before a.1 s))

is_absent : (periods : List (List ℕ)) → NoneTimed periods → reading_in periods ≡ Absent
unfolding reading_of
is_absent [] n = rw no_speed_is_none
is_absent (q ∷ periods) n = rw (eq-eqb (vehicles_in q) 0 n.0, none_last periods n.1, no_speed_is_none)

list_reads : (periods : List (List ℕ)) → AllTimed periods → Reads periods (reading_in periods)
list_reads periods a = record {
  measured = λ times before e s. subst (λ p. reading_in p ≡ Measured (speed_over times)) (sym e) (is_measured times before s);
  carried = λ none times before e l n s. subst (λ p. reading_in p ≡ Carried (speed_over times)) (sym e) (is_carried none times before (subst AllTimed e a) l n s);
  absent = is_absent periods;
}

-- The first vehicle is the slowest.
first_one : (x : Float) → slower_of x no_speed ≡ x
unfolding slower_of
first_one x = rw no_speed_is_none

-- The speeds of a period.
no_speeds_lem : (times : List ℕ) → vehicles_in times ≡ 0 → speeds_in times ≡ no_speeds
unfolding after_vehicle
no_speeds_lem [] z = refl
no_speeds_lem (time ∷ times) z =
    by_test (eqb time 0)
    (λ e. let y = rw e at z in rw e (no_speeds_lem times (omega arith)))
    (λ e. let y = rw e at z in absurd (omega arith))

latest_of : (later : List ℕ) (time : ℕ) (before : List ℕ) → vehicles_in later ≡ 0 → 1 ≤ time → (speeds_in (later ++ (time ∷ before))).latest ≡ speed_of 1 time
unfolding after_vehicle
latest_of [] time before z s = rw (ne_eqb time 0 (λ y. omega arith))
latest_of (t ∷ later) time before z s =
    by_test (eqb t 0)
    (λ e. let y = rw e at z in rw e (latest_of later time before (omega arith) s))
    (λ e. let y = rw e at z in absurd (omega arith))

no_longest : (times : List ℕ) → vehicles_in times ≡ 0 → longest times ≡ 0
no_longest [] z = refl
no_longest (time ∷ times) z =
    by_test (eqb time 0)
    (λ e. let y = rw e at z in omega (arith, eqb-true time 0 e, no_longest times (omega arith)))
    (λ e. let y = rw e at z in absurd (omega arith))

longest_in : (times : List ℕ) → Short times → longest times ≤ 65535
longest_in [] h = omega arith
longest_in (time ∷ times) h = omega (arith, h.0, longest_in times h.1)

some_longest : (times : List ℕ) → 1 ≤ vehicles_in times → 1 ≤ longest times
some_longest [] s = absurd (omega arith)
some_longest (time ∷ times) s =
    by_test (eqb time 0)
    (λ e. let y = rw e at s in omega (arith, some_longest times (omega arith)))
    (λ e. let z = eqb-false time 0 e in omega (arith, at_least_one time z))

-- One vehicle more: of two times the longer one is the slower vehicle's.
slower_of_lem : (t u : ℕ) → 1 ≤ t → t ≤ 65535 → 1 ≤ u → u ≤ 65535 → slower_of (speed_of 1 t) (speed_of 1 u) ≡ speed_of 1 (max t u)
unfolding slower_of
slower_of_lem t u T1 ht U1 hu =
    let timed = one_timed u U1 hu in
    by_test (ltb u t)
    (λ e. let h = ltb-true u t e in let m : max t u ≡ t = omega arith in rw (speed_some 1 u timed, slower t u T1 ht U1 hu h, m))
    (λ e. let h = ltb-false u t e in let m : max t u ≡ u = omega arith in rw (speed_some 1 u timed, not_slower t u T1 ht U1 hu h, m))

slowest_of : (times : List ℕ) → Short times → 1 ≤ vehicles_in times → (speeds_in times).slowest ≡ speed_of 1 (longest times)
unfolding after_vehicle
slowest_of [] h s = absurd (omega arith)
slowest_of (time ∷ times) h s =
    by_test (eqb time 0)
    (λ e.
    let y = rw e at s in
    let m : max time (longest times) ≡ longest times = omega (arith, eqb-true time 0 e) in
    rw (e, m) (slowest_of times h.1 (omega arith)))
    (λ e.
    let T1 = at_least_one time (eqb-false time 0 e) in
    by_test (eqb (vehicles_in times) 0)
    (λ z.
    let none = eqb-true (vehicles_in times) 0 z in
    let m : max time (longest times) ≡ time = omega (arith, no_longest times none) in
    rw (e, no_speeds_lem times none, m) (first_one (speed_of 1 time)))
    (λ z.
    let some = at_least_one (vehicles_in times) (eqb-false (vehicles_in times) 0 z) in
    rw (e, slowest_of times h.1 some) (slower_of_lem time (longest times) T1 h.0 (some_longest times some) (longest_in times h.1))))

speaks : (times : List ℕ) → Short times → Speaks times (speeds_in times)
speaks times h = record {
  none = no_speeds_lem times;
  latest = λ later time before e z s. subst (λ t. (speeds_in t).latest ≡ speed_of 1 time) (sym e) (latest_of later time before z s);
  slowest = slowest_of times h;
}

-- What is kept says so of a lane.
module _ (j : ℕ) (p : Periods) (h : Times) (f : Fits j p h) where
  lane_reads : Reads h.completed (lane_reading_of p j).reading
  unfolding lane_reading_of
  lane_reads = rw (f.last_vehicles, f.last_millis, f.earlier) (list_reads h.completed f.all_timed)

  lane_speaks : (times : List ℕ) (before : List (List ℕ)) → h.completed ≡ times ∷ before → Speaks times (lane_reading_of p j).speeds
  unfolding lane_reading_of
  lane_speaks times before e = subst (Speaks times) (ap (λ c. speeds_in (newest c)) (sym e) ∙ sym f.last) (speaks times (subst (λ c. Short (newest c)) e f.last_short))

-- Some periods are no list of none.
some_periods : (none : List (List ℕ)) (times : List ℕ) (before : List (List ℕ)) → 1 ≤ length (none ++ (times ∷ before))
some_periods [] times before = omega arith
some_periods (q ∷ none) times before = omega arith

-- Without a period nothing is read.
none_read : (periods : List (List ℕ)) → length periods ≡ 0 → Reads periods Absent
none_read periods z = record {
  measured = λ times before e s. absurd (omega (arith, ap length e, z));
  carried = λ none times before e l n s. absurd (omega (arith, ap length e, z, some_periods none times before));
  absent = λ n. refl;
}

module _ (x : Site) (ok : spoilt_site x ≡ false) (j : ℕ) (J : j < 6) (s : State) (good : state_spoilt s (shape_of x) ≡ false) (h : Times) (f : Fits j s.periods h) where
  no_period : s.periods.serial ≡ 0 → read_of x s ≡ refused_readings NoPeriod
  unfolding read_of readings_by refusal_of
  no_period z = rw (ok, good, eq-eqb s.periods.serial 0 z)

  a_period : 1 ≤ s.periods.serial → read_of x s ≡ readings_of s.periods
  unfolding read_of readings_by refusal_of
  a_period l = rw (ok, good, ne_eqb s.periods.serial 0 (λ z. omega arith))

  -- Where no period has been completed, and where one has.
  without : s.periods.serial ≡ 0 → Spoken h.completed (refused_readings NoPeriod).refusal (lane_in (refused_readings NoPeriod) j)
  unfolding refused_readings
  without z =
      let none : length h.completed ≡ 0 = zero_of (length h.completed) f.some in
      record {
        no_period = λ _. (refl, at_six (λ k. no_reading) no_reading j J);
        period = λ l. absurd (omega arith);
        reads = rw (at_six (λ k. no_reading) no_reading j J) (none_read h.completed none);
        speaks = λ times before e. absurd (omega (arith, ap length e, none));
      }
    where
      zero_of : (k : ℕ) → (1 ≤ k → 1 ≤ s.periods.serial) → k ≡ 0
      zero_of zero g = refl
      zero_of (suc k) g = absurd (omega (arith, g (omega arith), z))

  with_one : 1 ≤ s.periods.serial → Spoken h.completed (readings_of s.periods).refusal (lane_in (readings_of s.periods) j)
  unfolding readings_of
  with_one l = rw (at_six (lane_reading_of s.periods) no_reading j J) (record {
    no_period = λ e. absurd (omega (arith, f.none (ap length e), l));
    period = λ _. refl;
    reads = lane_reads j s.periods h f;
    speaks = lane_speaks j s.periods h f;
  })

  pub spoken : Spoken h.completed (read_of x s).refusal (lane_in (read_of x s) j)
  spoken =
      by_test (eqb s.periods.serial 0)
      (λ e. let z = eqb-true s.periods.serial 0 e in rw (no_period z) (without z))
      (λ e. let l = at_least_one s.periods.serial (eqb-false s.periods.serial 0 e) in rw (a_period l) (with_one l))

pub in_words : (x : Site) (s : State) → SincePowerUp x s (read_of x s)
unfolding SincePowerUp
in_words x s ok ticks same is j J =
    let g = since_power_up x ok j J ticks same in
    let h = times_after j (at_power_up x) no_times ticks in
    spoken x ok j (is_one_of_six x ok j J) s
    (subst (λ (q : State). state_spoilt q (shape_of x) ≡ false) (sym is) (good_state _ (shape_of x) g.0.good))
    h (subst (λ (q : State). Fits j q.periods h) (sym is) g.1)
