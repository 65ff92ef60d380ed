-- What it tells of counts that they are in range, and that counting a tick keeps them so.
use Prim.Native.Nat.{ℕ, zero, suc, ◌+◌, ◌*◌, ◌≤◌, ◌<◌}
use mathlib.Core.Path.{◌≡◌, refl, ◌∙◌}
use mathlib.Core.Bool.{Bool, true, false, cond}
use native.Mathlib.Omega.{arith}
use borrow.Author.Tests.{lt-ltb, le-ltb, ltb-true, ltb-false, ne_eqb, eqb-true, eqb-false}
use lib.Dec.{ltb, eqb}
use lib.ListN.{get_or, replicate}
use Rattle.loops.specs.Any.{any_from}
use Rattle.loops.proofs.AnyLaws.{neither, none_of, any_of_none}
use Rattle.loops.proofs.EachLaws.{at_four}
use Rattle.inputs.specs.declared.Metered.{Metered}
use Rattle.inputs.specs.declared.Mainline.{Mainline}
use Rattle.inputs.specs.declared.LaneSample.{LaneSample}
use Rattle.inputs.specs.Samples.{metered_sample_of, lane_sample_of, metered_bad, lane_bad, samples_bad, travel_time}
use Rattle.loops.proofs.Cases.{by_test}
use Rattle.speed.specs.Speed.{Timed}
use Rattle.lane_speeds.specs.Speeds.{speeds_timed, speeds_closed}
use Rattle.lane_speeds.proofs.RangeLaws.{SpeedsGood, speeds_good, good_speeds, timed_good, closed_good, none_good}
use Rattle.period.specs.declared.Counts.{Counts}
use Rattle.period.specs.declared.LaneCounts.{LaneCounts}
use Rattle.period.specs.declared.Periods.{Periods}
use Rattle.period.specs.Counts.{lane_of, no_counts, no_periods}
use Rattle.period.specs.Range.{lane_spoilt, lane_kept, lane_spoilt_at, metered_spoilt, metered_kept, metered_spoilt_at, counts_spoilt, last_ticks, periods_spoilt}
use Rattle.period.specs.Counting.{timed_of, lane_counted, lane_counted_at, passages_at, counted_of, next_serial, closed_of, after_tick, greens_at, green_counted, after_release}

-- A mainline lane's counts in range at so many ticks.
pub record LaneGood (c : LaneCounts) (t : ℕ) : Type 0 where
  pub worked : c.worked ≤ t
  pub vehicles : c.vehicles ≤ t
  pub occupied : c.occupied ≤ 100 * t
  pub timed : c.timed ≤ c.vehicles
  pub millis : c.millis ≤ 65535 * c.timed
  pub each : c.timed ≤ c.millis

pub lane_good : (c : LaneCounts) (t : ℕ) → lane_spoilt c t ≡ false → LaneGood c t
unfolding lane_spoilt
lane_good c t e =
    let a = neither _ _ e in
    let b = neither _ _ a.1 in
    let d = neither _ _ b.1 in
    let f = neither _ _ d.1 in
    let g = neither _ _ f.1 in
    record {
      worked = ltb-false t c.worked a.0;
      vehicles = ltb-false t c.vehicles b.0;
      occupied = ltb-false (100 * t) c.occupied d.0;
      timed = ltb-false c.vehicles c.timed f.0;
      millis = ltb-false (65535 * c.timed) c.millis g.0;
      each = ltb-false c.millis c.timed g.1;
    }

pub good_lane : (c : LaneCounts) (t : ℕ) → LaneGood c t → lane_spoilt c t ≡ false
unfolding lane_spoilt
good_lane c t g = rw (le-ltb _ _ g.worked, le-ltb _ _ g.vehicles, le-ltb _ _ g.occupied, le-ltb _ _ g.timed, le-ltb _ _ g.millis, le-ltb _ _ g.each)

-- A mainline lane's samples in range, and what its vehicle's time is then.
pub record SampleGood (s : LaneSample) : Type 0 where
  pub working : s.working ≤ 1
  pub occupied : s.occupied ≤ 100
  pub vehicles : s.vehicles ≤ 1
  pub time : s.time ≤ 65535

pub sample_good : (s : LaneSample) → lane_bad s ≡ false → SampleGood s
unfolding lane_bad
sample_good s e =
    let a = neither (ltb 1 s.working) _ e in
    let b = neither (ltb 100 s.occupied) _ a.1 in
    let d = neither (ltb 1 s.vehicles) _ b.1 in
    record { working = ltb-false 1 s.working a.0; occupied = ltb-false 100 s.occupied b.0; vehicles = ltb-false 1 s.vehicles d.0; time = ltb-false 65535 s.time d.1 }

-- What is not 0 is at least 1.
pub at_least_one : (k : ℕ) → (k ≡ 0 → ⊥) → 1 ≤ k
at_least_one zero f = absurd (f refl)
at_least_one (suc k) f = omega arith

record TimeGood (s : LaneSample) : Type 0 where
  few : timed_of (travel_time s) ≤ s.vehicles
  most : travel_time s ≤ 65535 * timed_of (travel_time s)
  least : timed_of (travel_time s) ≤ travel_time s

time_case : (s : LaneSample) (w v z : Bool) → eqb s.working 1 ≡ w → eqb s.vehicles 1 ≡ v → eqb s.time 0 ≡ z → SampleGood s → TimeGood s
unfolding travel_time timed_of
time_case s false v z ew ev ez h = record { few = rw ew (omega arith); most = rw ew (omega arith); least = rw ew (omega arith) }
time_case s true false z ew ev ez h = record { few = rw (ew, ev) (omega arith); most = rw (ew, ev) (omega arith); least = rw (ew, ev) (omega arith) }
time_case s true true true ew ev ez h =
    let e = eqb-true s.time 0 ez in
    record { few = rw (ew, ev, ez) (omega arith); most = rw (ew, ev, ez) (omega (arith, e)); least = rw (ew, ev, ez) (omega arith) }
time_case s true true false ew ev ez h =
    let e = eqb-false s.time 0 ez in
    record { few = rw (ew, ev, ez) (omega (arith, eqb-true s.vehicles 1 ev)); most = rw (ew, ev, ez) (omega (arith, h.time)); least = rw (ew, ev, ez) (at_least_one s.time e) }

time_good : (s : LaneSample) → SampleGood s → TimeGood s
time_good s h = time_case s _ _ _ refl refl refl h

-- A lane in range at fewer than 300 ticks has room for one tick more: no number of the machine is too small,
pub record LaneRoom (c : LaneCounts) (s : LaneSample) : Type 0 where
  pub worked : c.worked + s.working ≤ 300
  pub vehicles : c.vehicles + s.vehicles ≤ 300
  pub occupied : c.occupied + s.occupied ≤ 30000
  pub timed : c.timed + timed_of (travel_time s) ≤ 300
  pub millis : c.millis + travel_time s ≤ 19660500

pub lane_room : (c : LaneCounts) (s : LaneSample) → lane_spoilt c 299 ≡ false → lane_bad s ≡ false → LaneRoom c s
lane_room c s e f =
    let g = lane_good c 299 e in
    let h = sample_good s f in
    let k = time_good s h in
    record {
      worked = omega (arith, g.worked, h.working);
      vehicles = omega (arith, g.vehicles, h.vehicles);
      occupied = omega (arith, g.occupied, h.occupied);
      timed = omega (arith, g.timed, g.vehicles, h.vehicles, k.few);
      millis = omega (arith, g.millis, g.timed, g.vehicles, h.vehicles, k.few, k.most);
    }

later_good : (c : LaneCounts) (t u : ℕ) → t ≤ u → LaneGood c t → LaneGood c u
later_good c t u h g = record {
  worked = omega (arith, g.worked);
  vehicles = omega (arith, g.vehicles);
  occupied = omega (arith, g.occupied);
  timed = g.timed;
  millis = g.millis;
  each = g.each;
}

-- and is in range then.
counted_case : (c : LaneCounts) (s : LaneSample) (t : ℕ) (w : Bool) → eqb s.working 1 ≡ w → LaneGood c t → SampleGood s → LaneGood (lane_counted c s) (t + 1)
unfolding lane_counted
counted_case c s t false e g h = rw e (later_good c t (t + 1) (omega arith) g)
counted_case c s t true e g h =
    let k = time_good s h in
    rw e
    (record {
      worked = omega (arith, g.worked, h.working);
      vehicles = omega (arith, g.vehicles, h.vehicles);
      occupied = omega (arith, g.occupied, h.occupied);
      timed = omega (arith, g.timed, k.few);
      millis = omega (arith, g.millis, k.most);
      each = omega (arith, g.each, k.least);
    })

pub counted_good : (c : LaneCounts) (s : LaneSample) (t : ℕ) → LaneGood c t → SampleGood s → LaneGood (lane_counted c s) (t + 1)
counted_good c s t g h = counted_case c s t _ refl g h

-- At how many of a period's ticks lane i of k lanes can have been counted: beyond k at none.
unfoldable pub most_ticks : ℕ → ℕ → ℕ → ℕ
most_ticks i k t = cond (ltb i k) t 0

most_in : (i k t : ℕ) → i < k → most_ticks i k t ≡ t
unfolding most_ticks
most_in i k t h = rw (lt-ltb _ _ h)

most_out : (i k t : ℕ) → k ≤ i → most_ticks i k t ≡ 0
unfolding most_ticks
most_out i k t h = rw (le-ltb _ _ h)

-- A period's counts in range at so many ticks.
pub record CountsGood (c : Counts) (n m t : ℕ) : Type 0 where
  pub passages : (i : ℕ) → i < 4 → get_or c.passages i 0 ≤ most_ticks i n t
  pub greens : (i : ℕ) → i < 4 → get_or c.greens i 0 ≤ most_ticks i n t
  pub lanes : (j : ℕ) → j < 6 → LaneGood (lane_of c j) (most_ticks j m t)

metered_good : (a b t : ℕ) → metered_spoilt a b t ≡ false → (a ≤ t) × (b ≤ t)
unfolding metered_spoilt
metered_good a b t e = let s = neither _ _ e in (ltb-false t a s.0, ltb-false t b s.1)

good_metered : (a b t : ℕ) → a ≤ t → b ≤ t → metered_spoilt a b t ≡ false
unfolding metered_spoilt
good_metered a b t h k = rw (le-ltb _ _ h, le-ltb _ _ k)

-- A lane of which nothing is kept is one in range at no tick.
metered_none : (a b : ℕ) → metered_kept a b ≡ metered_spoilt a b 0
unfolding metered_kept metered_spoilt
metered_none a b = refl

none_kept : (c : LaneCounts) → lane_kept c ≡ false → LaneGood c 0
unfolding lane_kept
none_kept c e =
    let a = neither _ _ e in
    let b = neither _ _ a.1 in
    let d = neither _ _ b.1 in
    let f = neither _ _ d.1 in
    let millis = ltb-false 0 c.millis f.1 in
    let timed = ltb-false 0 c.timed f.0 in
    record {
      worked = ltb-false 0 c.worked a.0;
      vehicles = ltb-false 0 c.vehicles b.0;
      occupied = ltb-false 0 c.occupied d.0;
      timed = omega arith;
      millis = omega arith;
      each = omega arith;
    }

kept_none : (c : LaneCounts) → LaneGood c 0 → lane_kept c ≡ false
unfolding lane_kept
kept_none c g =
    let timed : c.timed ≤ 0 = omega (arith, g.timed, g.vehicles) in
    let millis : c.millis ≤ 0 = omega (arith, g.millis) in
    rw (le-ltb _ _ g.worked, le-ltb _ _ g.vehicles, le-ltb _ _ g.occupied, le-ltb _ _ timed, le-ltb _ _ millis)

module _ (c : Counts) (n m t : ℕ) where
  -- Each lane, the site's and those beyond, is in range at the ticks that it can have been counted at.
  metered_at : (i : ℕ) (b : Bool) → ltb i n ≡ b → metered_spoilt_at c n t i ≡ metered_spoilt (get_or c.passages i 0) (get_or c.greens i 0) (most_ticks i n t)
  unfolding metered_spoilt_at most_ticks
  metered_at i true e = rw e
  metered_at i false e = rw (e, metered_none _ _)

  lane_at : (j : ℕ) (b : Bool) → ltb j m ≡ b → lane_spoilt_at c m t j ≡ false → LaneGood (lane_of c j) (most_ticks j m t)
  unfolding lane_spoilt_at most_ticks
  lane_at j true e f = rw e (lane_good (lane_of c j) t (rw e at f))
  lane_at j false e f = rw e (none_kept (lane_of c j) (rw e at f))

  at_lane : (j : ℕ) (b : Bool) → ltb j m ≡ b → LaneGood (lane_of c j) (most_ticks j m t) → lane_spoilt_at c m t j ≡ false
  unfolding lane_spoilt_at most_ticks
  at_lane j true e g = rw e (good_lane (lane_of c j) t (rw e at g))
  at_lane j false e g = rw e (kept_none (lane_of c j) (rw e at g))

  pub counts_good : counts_spoilt c n m t ≡ false → CountsGood c n m t
  unfolding counts_spoilt
  counts_good e =
      let s = neither (any_from (metered_spoilt_at c n t) 0 4) (any_from (lane_spoilt_at c m t) 0 6) e in
      record {
        passages = λ i h. (metered_good _ _ _ (rw (metered_at i _ refl) at (none_of (metered_spoilt_at c n t) 0 4 s.0 i (omega arith) (omega arith)))).0;
        greens = λ i h. (metered_good _ _ _ (rw (metered_at i _ refl) at (none_of (metered_spoilt_at c n t) 0 4 s.0 i (omega arith) (omega arith)))).1;
        lanes = λ j h. lane_at j _ refl (none_of (lane_spoilt_at c m t) 0 6 s.1 j (omega arith) (omega arith));
      }

  pub good_counts : CountsGood c n m t → counts_spoilt c n m t ≡ false
  unfolding counts_spoilt
  good_counts g =
      rw (
        any_of_none (metered_spoilt_at c n t) 0 4 (λ i l h. metered_at i _ refl ∙ good_metered _ _ _ (g.passages i (omega arith)) (g.greens i (omega arith))),
        any_of_none (lane_spoilt_at c m t) 0 6 (λ j l h. at_lane j _ refl (g.lanes j (omega arith))),
      )

-- The samples in range.
module _ (lanes : Metered) (main : Mainline) (n m : ℕ) (e : samples_bad lanes main n m ≡ false) where
  abbrev metered_sample_bad : ℕ → Bool
  metered_sample_bad i = metered_bad (metered_sample_of lanes i)

  abbrev lane_sample_bad : ℕ → Bool
  lane_sample_bad j = lane_bad (lane_sample_of main j)

  both : (any_from metered_sample_bad 0 n ≡ false) × (any_from lane_sample_bad 0 m ≡ false)
  unfolding samples_bad
  both = neither (any_from metered_sample_bad 0 n) (any_from lane_sample_bad 0 m) e

  passage_good : (i : ℕ) → i < n → get_or lanes.passage i 0 ≤ 1
  unfolding metered_bad
  passage_good i h =
      ltb-false 1 (get_or lanes.passage i 0)
      (neither (ltb 1 (get_or lanes.demand i 0)) (ltb 1 (get_or lanes.passage i 0)) (none_of metered_sample_bad 0 n both.0 i (omega arith) (omega arith))).1

  pub main_bad : (j : ℕ) → j < m → lane_bad (lane_sample_of main j) ≡ false
  main_bad j h = none_of lane_sample_bad 0 m both.1 j (omega arith) (omega arith)

  main_good : (j : ℕ) → j < m → SampleGood (lane_sample_of main j)
  main_good j h = sample_good (lane_sample_of main j) (main_bad j h)

  -- Counts in range have room for the tick,
  module _ (c : Counts) (t : ℕ) (g : CountsGood c n m t) (l : t < 300) where
    pub room_for_lane : (j : ℕ) → j < 6 → j < m → (lane_spoilt (lane_of c j) 299 ≡ false) × (lane_bad (lane_sample_of main j) ≡ false)
    room_for_lane j h k =
        (good_lane (lane_of c j) 299 (later_good (lane_of c j) t 299 (omega arith) (rw (most_in j m t k) at (g.lanes j h))), main_bad j k)

    pub room_for_passage : (i : ℕ) → i < 4 → i < n → get_or c.passages i 0 + get_or lanes.passage i 0 ≤ 300
    room_for_passage i h k = omega (arith, g.passages i h, most_in i n t k, passage_good i k)

  -- and are in range after it.
  module _ (c : Counts) (t : ℕ) (g : CountsGood c n m t) where
    abbrev c' : Counts
    c' = counted_of c lanes main n m

    lane_is : (j : ℕ) → j < 6 → lane_of c' j ≡ lane_counted_at c main m j
    unfolding counted_of
    lane_is zero h = refl
    lane_is (suc zero) h = refl
    lane_is (suc (suc zero)) h = refl
    lane_is (suc (suc (suc zero))) h = refl
    lane_is (suc (suc (suc (suc zero)))) h = refl
    lane_is (suc (suc (suc (suc (suc zero))))) h = refl
    lane_is (suc (suc (suc (suc (suc (suc j)))))) h = absurd (omega arith)

    passages_are : (i : ℕ) → i < 4 → get_or c'.passages i 0 ≡ passages_at c lanes n i
    unfolding counted_of
    passages_are i h = at_four (passages_at c lanes n) i h

    lane_then : (j : ℕ) (b : Bool) → ltb j m ≡ b → j < 6 → LaneGood (lane_counted_at c main m j) (most_ticks j m (t + 1))
    unfolding lane_counted_at
    lane_then j true e h =
        let k = ltb-true j m e in
        rw (e, most_in j m (t + 1) k) (counted_good _ _ t (rw (most_in j m t k) at (g.lanes j h)) (main_good j k))
    lane_then j false e h =
        let k = ltb-false j m e in
        rw (e, most_out j m (t + 1) k) (rw (most_out j m t k) at (g.lanes j h))

    passages_then : (i : ℕ) (b : Bool) → ltb i n ≡ b → i < 4 → passages_at c lanes n i ≤ most_ticks i n (t + 1)
    unfolding passages_at
    passages_then i true e h =
        let k = ltb-true i n e in
        rw e (omega (arith, g.passages i h, most_in i n t k, most_in i n (t + 1) k, passage_good i k))
    passages_then i false e h =
        let k = ltb-false i n e in
        rw e (omega (arith, g.passages i h, most_out i n t k, most_out i n (t + 1) k))

    greens_then : (i : ℕ) (b : Bool) → ltb i n ≡ b → i < 4 → get_or c.greens i 0 ≤ most_ticks i n (t + 1)
    greens_then i true e h = let k = ltb-true i n e in omega (arith, g.greens i h, most_in i n t k, most_in i n (t + 1) k)
    greens_then i false e h = let k = ltb-false i n e in omega (arith, g.greens i h, most_out i n t k, most_out i n (t + 1) k)

    pub counts_after : CountsGood c' n m (t + 1)
    unfolding counted_of
    counts_after = record {
      passages = λ i h. rw (passages_are i h) (passages_then i _ refl h);
      greens = λ i h. greens_then i _ refl h;
      lanes = λ j h. rw (lane_is j h) (lane_then j _ refl h);
    }

zero_at : (k i : ℕ) → ◌≡◌ {A = ℕ} (get_or (replicate k 0) i 0) 0
zero_at zero i = refl
zero_at (suc k) zero = refl
zero_at (suc k) (suc i) = zero_at k i

-- No counts are in range at any number of ticks.
pub no_counts_good : (n m t : ℕ) → CountsGood no_counts n m t
no_counts_good n m t = record {
  passages = λ i h. rw (zero_at 4 i) (omega arith);
  greens = λ i h. rw (zero_at 4 i) (omega arith);
  lanes = λ j h. let z = zero_at 6 j in record {
    worked = rw z (omega arith);
    vehicles = rw z (omega arith);
    occupied = rw z (omega arith);
    timed = rw z (omega arith);
    millis = rw z (omega arith);
    each = rw z (omega arith);
  };
}

-- What it tells of the periods that they are in range.
pub record PeriodsGood (p : Periods) (n m : ℕ) : Type 0 where
  pub ticks : p.ticks ≤ 299
  pub current : CountsGood p.current n m p.ticks
  pub last : CountsGood p.last n m (last_ticks p.serial)
  pub speeds : SpeedsGood p.speeds m

pub periods_good : (p : Periods) (n m : ℕ) → periods_spoilt p n m ≡ false → PeriodsGood p n m
unfolding periods_spoilt
periods_good p n m e =
    let a = neither (ltb 299 p.ticks) _ e in
    let b = neither (counts_spoilt p.current n m p.ticks) _ a.1 in
    let d = neither (counts_spoilt p.last n m (last_ticks p.serial)) _ b.1 in
    record {
      ticks = ltb-false 299 p.ticks a.0;
      current = counts_good p.current n m p.ticks b.0;
      last = counts_good p.last n m (last_ticks p.serial) d.0;
      speeds = speeds_good p.speeds m d.1;
    }

pub good_periods : (p : Periods) (n m : ℕ) → PeriodsGood p n m → periods_spoilt p n m ≡ false
unfolding periods_spoilt
good_periods p n m g = rw (le-ltb _ _ g.ticks, good_counts p.current n m p.ticks g.current, good_counts p.last n m (last_ticks p.serial) g.last, good_speeds p.speeds m g.speeds)

-- A period that has been completed has a serial, and 300 ticks.
completed_case : (serial : ℕ) (b : Bool) → eqb serial 4294967295 ≡ b → last_ticks (next_serial serial) ≡ 300
unfolding last_ticks next_serial
completed_case serial true e = let h = eqb-true serial 4294967295 e in rw (e, ne_eqb serial 0 (λ z. omega arith))
completed_case serial false e = rw (e, ne_eqb (serial + 1) 0 (λ z. omega arith))

completed : (serial : ℕ) → last_ticks (next_serial serial) ≡ 300
completed serial = completed_case serial _ refl

pub most_most : (i n t : ℕ) (b : Bool) → ltb i n ≡ b → most_ticks i n t ≤ t
unfolding most_ticks
most_most i n t true e = rw e (omega arith)
most_most i n t false e = rw e (omega arith)

pub last_most : (serial : ℕ) → last_ticks serial ≤ 300
unfolding last_ticks
last_most serial = by_test (eqb serial 0) (λ e. rw e (omega arith)) (λ e. rw e (omega arith))

-- A completed period's serial is from 1 on.
pub next_some : (serial : ℕ) → 1 ≤ next_serial serial
unfolding next_serial
next_some serial = by_test (eqb serial 4294967295) (λ e. rw e (omega (arith, eqb-true serial 4294967295 e))) (λ e. rw e (omega arith))

-- A lane on which the completed period timed a vehicle is one of the site's, and its numbers are those of timed vehicles.
pub last_timed : (p : Periods) (n m : ℕ) → PeriodsGood p n m → (j : ℕ) → j < 6 → (get_or p.last.timed j 0 ≡ 0 → ⊥) → (j < m) × Timed (get_or p.last.timed j 0) (get_or p.last.millis j 0)
last_timed p n m g j h some = by_test (ltb j m) (λ e. (ltb-true j m e, inside)) (λ e. absurd (outside (ltb-false j m e)))
  where
    lane : LaneCounts
    lane = lane_of p.last j

    good : LaneGood lane (most_ticks j m (last_ticks p.serial))
    good = g.last.lanes j h

    outside : m ≤ j → ⊥
    outside k = let z = most_out j m (last_ticks p.serial) k in some (omega (arith, good.timed, good.vehicles, z))

    inside : Timed lane.timed lane.millis
    inside = record {
      some = at_least_one lane.timed some;
      few = omega (arith, good.timed, good.vehicles, most_most j m (last_ticks p.serial) _ refl, last_most p.serial);
      least = good.each;
      most = good.millis;
    }

-- A tick keeps the periods in range.
module _ (p : Periods) (lanes : Metered) (main : Mainline) (n m : ℕ) (g : PeriodsGood p n m) (e : samples_bad lanes main n m ≡ false) where
  -- The tick's vehicles, and a period's end, keep the speeds in range.
  speeds_then : SpeedsGood (speeds_timed p.speeds main m) m
  speeds_then = timed_good p.speeds main m (main_bad lanes main n m e) g.speeds

  speeds_closed_lem : SpeedsGood (speeds_closed (speeds_timed p.speeds main m) p.last.timed p.last.millis) m
  speeds_closed_lem = closed_good _ m _ _ speeds_then (last_timed p n m g)

  closes : (b : Bool) → ltb p.ticks 299 ≡ b → PeriodsGood (after_tick p lanes main n m) n m
  unfolding after_tick closed_of
  closes true q =
      let l = ltb-true p.ticks 299 q in
      rw q (record { ticks = omega arith; current = counts_after lanes main n m e p.current p.ticks g.current; last = g.last; speeds = speeds_then })
  closes false q =
      let l = ltb-false p.ticks 299 q in
      let t : p.ticks + 1 ≡ 300 = omega (arith, g.ticks) in
      rw q (record { ticks = omega arith; current = no_counts_good n m 0; last = rw (completed p.serial, ← t) (counts_after lanes main n m e p.current p.ticks g.current); speeds = speeds_closed_lem })

  pub periods_after : PeriodsGood (after_tick p lanes main n m) n m
  periods_after = closes _ refl

-- A release adds one green at one of the site's lanes.
module _ (c : Counts) (n m t k : ℕ) (g : CountsGood c n m (t + 1)) (few : (i : ℕ) → i < 4 → get_or c.greens i 0 ≤ most_ticks i n t) (h : k ≤ n) where
  greens_are : (i : ℕ) → i < 4 → get_or (green_counted c k).greens i 0 ≡ greens_at c k i
  unfolding green_counted
  greens_are i l = at_four (greens_at c k) i l

  greens_in : (i : ℕ) (b : Bool) → eqb k (i + 1) ≡ b → i < 4 → greens_at c k i ≤ most_ticks i n (t + 1)
  unfolding greens_at
  greens_in i true e l =
      let here : i < n = omega (arith, eqb-true k (i + 1) e) in
      rw e (omega (arith, few i l, most_in i n t here, most_in i n (t + 1) here))
  greens_in i false e l = rw e (g.greens i l)

  green_good : CountsGood (green_counted c k) n m (t + 1)
  unfolding green_counted
  green_good = record {
    passages = g.passages;
    greens = λ i l. rw (greens_are i l) (greens_in i _ refl l);
    lanes = g.lanes;
  }

greens_room : (c : Counts) (n m t : ℕ) → t ≤ 300 → CountsGood c n m t → (i : ℕ) → i < 4 → get_or c.greens i 0 ≤ 300
greens_room c n m t h g i l = omega (arith, g.greens i l, most_most i n t _ refl)

-- Greens in range have room for one more.
pub periods_room : (p : Periods) (n m : ℕ) → PeriodsGood p n m → (i : ℕ) → i < 4 → (get_or p.current.greens i 0 ≤ 300) × (get_or p.last.greens i 0 ≤ 300)
periods_room p n m g i h = (
  greens_room p.current n m p.ticks (omega (arith, g.ticks)) g.current i h,
  greens_room p.last n m (last_ticks p.serial) (last_most p.serial) g.last i h,
)

-- A tick and its release keep the periods in range.
module _ (p : Periods) (lanes : Metered) (main : Mainline) (n m k : ℕ) (g : PeriodsGood p n m) (e : samples_bad lanes main n m ≡ false) (h : k ≤ n) where
  abbrev counted : Counts
  counted = counted_of p.current lanes main n m

  counted_green : CountsGood (green_counted counted k) n m (p.ticks + 1)
  unfolding counted_of
  counted_green = green_good counted n m p.ticks k (counts_after lanes main n m e p.current p.ticks g.current) g.current.greens h

  release_closes : (a b : Bool) → eqb k 0 ≡ a → ltb p.ticks 299 ≡ b → PeriodsGood (after_release (after_tick p lanes main n m) k) n m
  unfolding after_release after_tick closed_of
  release_closes true b ea eb = rw ea (periods_after p lanes main n m g e)
  release_closes false true ea eb =
      let l = ltb-true p.ticks 299 eb in
      rw (ea, eb, ne_eqb (p.ticks + 1) 0 (λ z. omega arith)) (record { ticks = omega arith; current = counted_green; last = g.last; speeds = speeds_then p lanes main n m g e })
  release_closes false false ea eb =
      let l = ltb-false p.ticks 299 eb in
      let t : p.ticks + 1 ≡ 300 = omega (arith, g.ticks) in
      rw (ea, eb) (record { ticks = omega arith; current = no_counts_good n m 0; last = rw (completed p.serial, ← t) counted_green; speeds = speeds_closed_lem p lanes main n m g e })

  pub periods_released : PeriodsGood (after_release (after_tick p lanes main n m) k) n m
  periods_released = release_closes _ _ refl refl

-- No periods are in range.
pub no_periods_good : (n m : ℕ) → PeriodsGood no_periods n m
unfolding no_periods
no_periods_good n m = record { ticks = omega arith; current = no_counts_good n m 0; last = no_counts_good n m (last_ticks 0); speeds = none_good m }
