-- What a record that is not spoilt tells of its timings: each is in its range.
use Prim.Native.Nat.{ℕ, ◌≤◌, ◌<◌}
use mathlib.Core.Path.{◌≡◌, refl}
use mathlib.Core.Bool.{true, false}
use native.Mathlib.Omega.{arith}
use lib.ListN.{get_or, take}
use lib.Seq.{get_or-take}
use Rattle.ranges.specs.declared.Section.TheVariants.{Timings}
use Rattle.numbers.specs.declared.Range.{Range}
use Rattle.numbers.specs.Within.{is_within}
use Rattle.ranges.specs.Ranges.{timing_range}
use Rattle.ranges.specs.Sections.{range_of, may_be_unused}
use Rattle.numbers.proofs.WithinLaws.{ends}
use Rattle.timings.specs.declared.Timings.{Timings as NamedTimings}
use Rattle.site.specs.declared.Site.{Site}
use Rattle.site.specs.Record.{spoilt_site}
use Rattle.site.specs.Named.{timings_of}
use Rattle.site.proofs.SpoiltLaws.{sound_site, number_within}

-- Maximum green is no shorter than minimum green, and the priority lane is one of the lanes or 0.
pub record TimingsGood (t : NamedTimings) : Type 0 where
  pub lanes_least : 1 ≤ t.lanes
  pub lanes_most : t.lanes ≤ 4
  pub vehicles_least : 1 ≤ t.vehicles
  pub vehicles_most : t.vehicles ≤ 3
  pub mingreen_least : 10 ≤ t.mingreen
  pub mingreen_most : t.mingreen ≤ t.maxgreen
  pub green_least : 10 ≤ t.maxgreen
  pub green_most : t.maxgreen ≤ 100
  pub yellow_least : 10 ≤ t.yellow
  pub yellow_most : t.yellow ≤ 60
  pub red_least : 10 ≤ t.minred
  pub red_most : t.minred ≤ 100
  pub warning : (10 ≤ t.warning) × (t.warning ≤ 600)
  pub startgreen : (10 ≤ t.startgreen) × (t.startgreen ≤ 600)
  pub startyellow : (10 ≤ t.startyellow) × (t.startyellow ≤ 60)
  pub startred : (10 ≤ t.startred) × (t.startred ≤ 600)
  pub shutdown : (10 ≤ t.shutdown) × (t.shutdown ≤ 600)
  pub mainline_most : t.mainline ≤ 6
  pub priority_most : t.priority ≤ t.lanes
  pub timeout_most : t.timeout ≤ 255

module _ (x : Site) (ok : spoilt_site x ≡ false) where
  abbrev timing : ℕ → ℕ
  timing i = get_or x.timings i 0

  abbrev range : ℕ → Range
  range i = timing_range (timing 0) (timing 3) i

  pub timing_within : (i : ℕ) → i < 17 → is_within (range i) (timing i) ≡ true
  unfolding range_of may_be_unused
  timing_within i h =
      let first : (j : ℕ) → j < 17 → get_or (take 17 x.timings) j 0 ≡ timing j = λ j l. get_or-take 17 x.timings j 0 l in
      rw (first 0 (omega arith), first 3 (omega arith)) at (number_within Timings 17 x.timings (sound_site x ok).timings i h refl)

  ends_of : (i : ℕ) → i < 17 → ((range i).low ≤ timing i) × (timing i ≤ (range i).high)
  ends_of i h = ends (range i) (timing i) (timing_within i h)

  pub timings_good : TimingsGood (timings_of x)
  unfolding timing_range timings_of
  timings_good =
      let lanes = ends_of 0 (omega arith) in
      let vehicles = ends_of 2 (omega arith) in
      let mingreen = ends_of 3 (omega arith) in
      let green = ends_of 4 (omega arith) in
      let yellow = ends_of 5 (omega arith) in
      let red = ends_of 6 (omega arith) in
      record {
        lanes_least = lanes.0;
        lanes_most = lanes.1;
        vehicles_least = vehicles.0;
        vehicles_most = vehicles.1;
        mingreen_least = mingreen.0;
        mingreen_most = green.0;
        green_least = omega (arith, mingreen.0, green.0);
        green_most = green.1;
        yellow_least = yellow.0;
        yellow_most = yellow.1;
        red_least = red.0;
        red_most = red.1;
        warning = ends_of 7 (omega arith);
        startgreen = ends_of 8 (omega arith);
        startyellow = ends_of 9 (omega arith);
        startred = ends_of 10 (omega arith);
        shutdown = ends_of 11 (omega arith);
        mainline_most = (ends_of 14 (omega arith)).1;
        priority_most = (ends_of 15 (omega arith)).1;
        timeout_most = (ends_of 16 (omega arith)).1;
      }
