-- `spoilt_of` and `spoilt_site` from the facts that the code finds, and what it tells of a record that it is not spoilt.
use Prim.Native.Nat.{ℕ, ◌≤◌, ◌<◌}
use mathlib.Core.Path.{◌≡◌}
use mathlib.Core.Bool.{true, false, not}
use mathlib.Core.List.{List}
use native.Mathlib.Omega.{arith}
use borrow.Author.Tests.{lt-ltb, le-ltb, ltb-false, not-false}
use lib.ListN.{length, get_or, take, drop}
use lib.Seq.{get_or-take}
use Rattle.loops.proofs.AnyLaws.{neither}
use Rattle.ranges.specs.declared.Section.{Section}
use Rattle.ranges.specs.declared.Section.TheVariants.{Timings, Entries, Holidays, Levels}
use Rattle.numbers.specs.Within.{is_within}
use Rattle.ranges.specs.Sections.{allowed_of, size_of, range_of, may_be_unused, first_bad, zeros}
use Rattle.ranges.proofs.RangeLaws.{within_before}
use Rattle.site.specs.declared.Site.{Site}
use Rattle.site.specs.Record.{spoilt_of, spoilt_site}

module _ (k : Section) (n : ℕ) (v : List ℕ) where
  pub spoilt_count : allowed_of k n ≡ false → true ≡ spoilt_of k n v
  unfolding spoilt_of
  spoilt_count f = rw f

  module _ (t : allowed_of k n ≡ true) (w : ℕ) (ew : w ≡ size_of k n) (b : ℕ) (eb : b ≡ first_bad k (take w v) 0 (length (take w v))) where
    pub spoilt_number : b < w → true ≡ spoilt_of k n v
    unfolding spoilt_of
    spoilt_number l = rw (t, ← ew, ← eb, lt-ltb _ _ l)

    pub spoilt_rest : w ≤ b → not (zeros (drop w v)) ≡ spoilt_of k n v
    unfolding spoilt_of
    spoilt_rest l = rw (t, ← ew, ← eb, le-ltb _ _ l)

-- What a section that is not spoilt tells.
pub record Sound (k : Section) (n : ℕ) (v : List ℕ) : Type 0 where
  pub allowed : allowed_of k n ≡ true
  pub in_range : size_of k n ≤ first_bad k (take (size_of k n) v) 0 (length (take (size_of k n) v))
  pub rest : zeros (drop (size_of k n) v) ≡ true

pub sound : (k : Section) (n : ℕ) (v : List ℕ) → spoilt_of k n v ≡ false → Sound k n v
unfolding spoilt_of
sound k n v z =
    let p = neither _ _ z in
    let q = neither _ _ p.1 in
    record {
      allowed = not-false _ p.0;
      in_range = ltb-false (first_bad k (take (size_of k n) v) 0 (length (take (size_of k n) v))) (size_of k n) q.0;
      rest = not-false _ q.1;
    }

pub number_within : (k : Section) (n : ℕ) (v : List ℕ) → Sound k n v → (j : ℕ) → j < size_of k n → may_be_unused k j ≡ false
    → is_within (range_of k (take (size_of k n) v) j) (get_or v j 0) ≡ true
number_within k n v s j h u =
    let rows = take (size_of k n) v in
    rw (get_or-take (size_of k n) v j 0 h) at (within_before k rows (length rows) j (omega (arith, s.in_range)) u)

-- What a record that is not spoilt tells of its four sections.
pub record SoundSite (x : Site) : Type 0 where
  pub timings : Sound Timings 17 x.timings
  pub plan : Sound Entries x.entries x.plan
  pub dates : Sound Holidays x.holidays x.dates
  pub tables : Sound Levels x.levels x.tables

pub sound_site : (x : Site) → spoilt_site x ≡ false → SoundSite x
unfolding spoilt_site
sound_site x z =
    let p = neither _ _ z in
    let q = neither _ _ p.1 in
    let r = neither _ _ q.1 in
    record {
      timings = sound Timings 17 x.timings p.0;
      plan = sound Entries x.entries x.plan q.0;
      dates = sound Holidays x.holidays x.dates r.0;
      tables = sound Levels x.levels x.tables r.1;
    }
