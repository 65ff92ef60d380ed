-- What it tells of a bypass that it is in range, is kept, begins or ends; and what it releases.
use Prim.Native.Nat.{ℕ, ◌+◌, ◌-◌, ◌≤◌, ◌<◌, min}
use mathlib.Core.Path.{◌≡◌, refl, sym, ◌∙◌, ap}
use mathlib.Core.Bool.{Bool, true, false, not, ◌&&◌, true≢false}
use native.Mathlib.Omega.{arith}
use borrow.Author.Tests.{ltb-true, ltb-false, le-ltb, leb-true, le-leb, eqb-true, eqb-false, eq-eqb, ne_eqb, not-true, not-false}
use lib.Dec.{ltb, leb, eqb}
use Rattle.loops.specs.Any.{any_from}
use Rattle.loops.proofs.AnyLaws.{neither, none_of, any_of_none}
use Rattle.loops.proofs.Cases.{by_test, both_true}
use Rattle.timings.specs.declared.Timings.{Timings}
use Rattle.lanes.specs.declared.Lane.{Lane}
use Rattle.lanes.specs.declared.Lanes.{Lanes}
use Rattle.lanes.specs.declared.Endings.{Endings}
use Rattle.lanes.specs.declared.Ending.TheVariants.{Ordinary, Cut, Held, Now}
use Rattle.lanes.specs.Intervals.{has_been_red}
use Rattle.lanes.specs.Lanes.{lane_of, ending_of, lanes_entered}
use Rattle.lanes.proofs.LaneLaws.{Within, ordinary_within, now_within, entered_in}
use Rattle.bypass.specs.declared.Bypass.{Bypass}
use Rattle.bypass.specs.Bypass.{later_of, is_time_up, begins_at, ends_at, kept_of, timer_of, bypass_of}
use Rattle.bypass.specs.Lanes.{place_of, priority_of, endings_of, other_not_red, others_red, released_for}
use Rattle.bypass.specs.Range.{bypass_spoilt}
use Rattle.bypass.specs.Found.{Due, FoundFor}

pub later_min : (timer : ℕ) → later_of timer ≡ min (timer + 1) 2550
unfolding later_of
later_min timer = by_test (ltb timer 2550) (λ e. rw e (omega (arith, ltb-true timer 2550 e))) (λ e. rw e (omega (arith, ltb-false timer 2550 e)))

-- A bypass in range, in metering or not, with this priority lane.
pub record BypassGood (metering : Bool) (priority : ℕ) (b : Bypass) : Type 0 where
  pub in_metering : b.kept ≡ true → metering ≡ true
  pub some_lane : b.kept ≡ true → 1 ≤ priority
  pub timer : b.timer ≤ 2550
  pub none : b.kept ≡ false → b.timer ≡ 0

-- A bypass that begins: the mark does not stand, there is a priority lane, the call is on, in metering.
pub record Begun (t : Timings) (metering : Bool) (call : ℕ) (mark : Bool) : Type 0 where
  pub unmarked : mark ≡ false
  pub some_lane : 1 ≤ t.priority
  pub on : call ≡ 1
  pub in_metering : metering ≡ true

-- One that goes on: none of the four ends has come.
pub record GoesOn (t : Timings) (metering : Bool) (call : ℕ) (passed : Bool) (timer : ℕ) : Type 0 where
  pub not_passed : passed ≡ false
  pub on : call ≡ 1
  pub not_up : is_time_up t.timeout (later_of timer) ≡ false
  pub in_metering : metering ≡ true

module _ (t : Timings) (metering : Bool) (call : ℕ) where
  pub begun : (mark : Bool) → begins_at t metering call mark ≡ true → Begun t metering call mark
  unfolding begins_at
  begun mark e =
      let p = both_true (not mark) _ e in
      let q = both_true (not (eqb t.priority 0)) _ p.1 in
      let r = both_true (eqb call 1) metering q.1 in
      record {
        unmarked = not-true mark p.0;
        some_lane = omega (arith, eqb-false t.priority 0 (not-true (eqb t.priority 0) q.0));
        on = eqb-true call 1 r.0;
        in_metering = r.1;
      }

  pub begins : (mark : Bool) → Begun t metering call mark → begins_at t metering call mark ≡ true
  unfolding begins_at
  begins mark b = rw (b.unmarked, ne_eqb t.priority 0 (λ z. omega (arith, b.some_lane)), eq-eqb call 1 b.on, b.in_metering)

  pub goes_on : (passed : Bool) (timer : ℕ) → ends_at t metering call passed timer ≡ false → GoesOn t metering call passed timer
  unfolding ends_at
  goes_on passed timer e =
      let p = neither passed _ e in
      let q = neither (not (eqb call 1)) _ p.1 in
      let r = neither (is_time_up t.timeout (later_of timer)) (not metering) q.1 in
      record {
        not_passed = p.0;
        on = eqb-true call 1 (not-false (eqb call 1) q.0);
        not_up = r.0;
        in_metering = not-false metering r.1;
      }

  pub no_end : (passed : Bool) (timer : ℕ) → GoesOn t metering call passed timer → ends_at t metering call passed timer ≡ false
  unfolding ends_at
  no_end passed timer g = rw (g.not_passed, eq-eqb call 1 g.on, g.not_up, g.in_metering)

  module _ (passed : Bool) (b : Bypass) where
    abbrev after : Bypass
    after = bypass_of t metering call passed b

    pub kept_after : after.kept ≡ kept_of t metering call passed b
    unfolding bypass_of
    kept_after = refl

    -- One that is kept before and after the tick has gone on; one that is not before has begun.
    pub kept_on : b.kept ≡ true → after.kept ≡ true → GoesOn t metering call passed b.timer
    unfolding bypass_of kept_of
    kept_on e k = goes_on passed b.timer (not-true (ends_at t metering call passed b.timer) (rw e at k))

    pub kept_anew : b.kept ≡ false → after.kept ≡ true → Begun t metering call b.mark
    unfolding bypass_of kept_of
    kept_anew e k = begun b.mark (rw e at k)

    pub stays_kept : b.kept ≡ true → GoesOn t metering call passed b.timer → after.kept ≡ true
    unfolding bypass_of kept_of
    stays_kept e g = rw (e, no_end passed b.timer g)

    pub is_kept : b.kept ≡ false → Begun t metering call b.mark → after.kept ≡ true
    unfolding bypass_of kept_of
    is_kept e g = rw (e, begins b.mark g)

    -- Either way the call is on, in metering.
    pub kept_metering : after.kept ≡ true → metering ≡ true
    kept_metering k = by_test b.kept (λ e. (kept_on e k).in_metering) (λ e. (kept_anew e k).in_metering)

    pub timer_after : after.timer ≡ timer_of after.kept b
    unfolding bypass_of
    timer_after = refl

    timer_most : (kept : Bool) → timer_of kept b ≤ 2550
    unfolding timer_of
    timer_most true = by_test b.kept (λ e. rw e (omega (arith, later_min b.timer))) (λ e. rw e (omega arith))
    timer_most false = omega arith

    timer_none : (kept : Bool) → kept ≡ false → timer_of kept b ≡ 0
    unfolding timer_of
    timer_none kept e = rw e

    -- A tick keeps it in range.
    pub bypass_keeps : (was : Bool) → BypassGood was t.priority b → BypassGood metering t.priority after
    unfolding bypass_of
    bypass_keeps was v = record {
      in_metering = kept_metering;
      some_lane = λ k. by_test b.kept (λ e. v.some_lane e) (λ e. (kept_anew e k).some_lane);
      timer = timer_most after.kept;
      none = timer_none after.kept;
    }

-- What the check tells.
module _ (metering : Bool) (priority : ℕ) (b : Bypass) where
  pub bypass_good : bypass_spoilt metering priority b ≡ false → BypassGood metering priority b
  unfolding bypass_spoilt
  bypass_good e =
      by_test b.kept
      (λ k. let p = neither (eqb priority 0) _ (rw k at e) in
      let q = neither (ltb 2550 b.timer) (not metering) p.1 in
      record {
        in_metering = λ _. not-false metering q.1;
        some_lane = λ _. omega (arith, eqb-false priority 0 p.0);
        timer = ltb-false 2550 b.timer q.0;
        none = λ z. absurd (true≢false (sym k ∙ z));
      })
      (λ k. let z : b.timer ≡ 0 = omega (arith, ltb-false 0 b.timer (rw k at e)) in
      record {
        in_metering = λ z. absurd (true≢false (sym z ∙ k));
        some_lane = λ z. absurd (true≢false (sym z ∙ k));
        timer = omega (arith, z);
        none = λ _. z;
      })

  pub good_bypass : BypassGood metering priority b → bypass_spoilt metering priority b ≡ false
  unfolding bypass_spoilt
  good_bypass v =
      by_test b.kept
      (λ k. rw (k, ne_eqb priority 0 (λ z. omega (arith, v.some_lane k)), le-ltb 2550 b.timer v.timer, v.in_metering k))
      (λ k. rw (k, le-ltb 0 b.timer (omega (arith, v.none k))))

-- How greens end while one is kept, at the tick of its end, and with none.
abbrev pub while_kept : Timings → Endings
while_kept t = record { lane = t.priority; own = Held; others = Cut }

abbrev pub at_the_end : Timings → Endings
at_the_end t = record { lane = t.priority; own = Now; others = Ordinary }

abbrev pub with_none : Timings → Endings
with_none t = record { lane = t.priority; own = Ordinary; others = Ordinary }

module _ (t : Timings) (was now : Bypass) where
  pub endings_none : was.kept ≡ false → now.kept ≡ false → endings_of t was now ≡ with_none t
  unfolding endings_of
  endings_none k n = rw (k, n)

  pub endings_kept : now.kept ≡ true → endings_of t was now ≡ while_kept t
  unfolding endings_of
  endings_kept k = rw k

  pub endings_ended : was.kept ≡ true → now.kept ≡ false → endings_of t was now ≡ at_the_end t
  unfolding endings_of
  endings_ended k n = rw (k, n)

-- With no bypass kept, the tick done, no green reaches the maximum.
pub within_maximum : (t : Timings) (was now : Bypass) → now.kept ≡ false → (k : ℕ) → Within t t.maxgreen (ending_of (endings_of t was now) k)
unfolding ending_of endings_of
within_maximum t was now e k =
    by_test was.kept
    (λ f. by_test (eqb t.priority k) (λ q. rw (e, f, q) (now_within t t.maxgreen)) (λ q. rw (e, f, q) (ordinary_within t)))
    (λ f. by_test (eqb t.priority k) (λ q. rw (e, f, q) (ordinary_within t)) (λ q. rw (e, f, q) (ordinary_within t)))

-- Where a bypass releases its lane, the others are red and it has been red its minimum; and where that is so it does.
module _ (t : Timings) (s : Lanes) where
  others_red_lem : others_red t s ≡ true → (i : ℕ) → i < t.lanes → (i + 1 ≡ t.priority → ⊥) → (lane_of s i).colour ≡ 1
  unfolding others_red other_not_red
  others_red_lem e i h other =
      let none = none_of (other_not_red t s) 0 t.lanes (not-true (any_from (other_not_red t s) 0 t.lanes) e) i (omega arith) (omega arith) in
      by_test (eqb (lane_of s i).colour 1) (λ f. eqb-true (lane_of s i).colour 1 f)
      (λ f. absurd (true≢false (rw (f, ne_eqb t.priority (i + 1) (λ z. other (sym z))) at none)))

  pub due : eqb (released_for t s) 0 ≡ false → Due t s
  unfolding released_for has_been_red
  due e =
      by_test (has_been_red t (priority_of t s) && others_red t s)
      (λ f. let p = both_true (has_been_red t (priority_of t s)) (others_red t s) f in
      let q = both_true (eqb (priority_of t s).colour 1) (leb t.minred (priority_of t s).age) p.0 in
      record { others = others_red_lem p.1; red = eqb-true _ 1 q.0; long = leb-true t.minred _ q.1 })
      (λ f. let y : eqb 0 0 ≡ false = rw f at e in absurd (true≢false y))

  are_red : ((i : ℕ) → i < t.lanes → (i + 1 ≡ t.priority → ⊥) → (lane_of s i).colour ≡ 1) → others_red t s ≡ true
  unfolding others_red other_not_red
  are_red red =
      rw (any_of_none (other_not_red t s) 0 t.lanes (λ i _ h. by_test (eqb t.priority (i + 1))
      (λ e. by_test (eqb (lane_of s i).colour 1) (λ f. rw f) (λ f. rw (f, e)))
      (λ e. rw (eq-eqb (lane_of s i).colour 1 (red i (omega arith) (λ z. eqb-false t.priority (i + 1) e (sym z)))))))

  pub is_due : Due t s → released_for t s ≡ t.priority
  unfolding released_for has_been_red
  is_due d = rw (eq-eqb (priority_of t s).colour 1 d.red, le-leb t.minred (priority_of t s).age d.long, are_red d.others)

  pub found_for : FoundFor t s (released_for t s)
  found_for = record { released = is_due; due = λ f. due (ne_eqb (released_for t s) 0 f) }

  pub released_for_lem : eqb (released_for t s) 0 ≡ false → released_for t s ≡ t.priority
  released_for_lem e = is_due (due e)

  pub released_most : released_for t s ≤ t.priority
  released_most = by_test (eqb (released_for t s) 0) (λ e. omega (arith, eqb-true (released_for t s) 0 e)) (λ e. omega (arith, released_for_lem e))

-- On entering metering it has not been red its minimum.
entered_young : (t : Timings) → 1 ≤ t.priority → t.priority ≤ t.lanes → t.lanes ≤ 4 → (priority_of t (lanes_entered t.lanes)).age ≡ 0
unfolding priority_of place_of
entered_young t some most four = ap (λ (l : Lane). l.age) (entered_in t.lanes (t.priority - 1) (omega arith) (omega arith))

pub none_due_on_entry : (t : Timings) → t.priority ≤ t.lanes → t.lanes ≤ 4 → 1 ≤ t.minred → released_for t (lanes_entered t.lanes) ≡ 0
none_due_on_entry t most four red =
    let s = lanes_entered t.lanes in
    let k = released_for t s in
    by_test (eqb k 0) (λ e. eqb-true k 0 e)
    (λ e. let some : 1 ≤ t.priority = omega (arith, eqb-false k 0 e, released_for_lem t s e) in
    absurd (omega (arith, entered_young t some most four, (due t s e).long)))
