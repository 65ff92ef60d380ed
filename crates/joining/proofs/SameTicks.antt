-- What a tick does follows from its wish; the plan gives nothing else but the entry's place.
use Prim.Native.Nat.{ℕ}
use mathlib.Core.Path.{◌≡◌, refl, sym, ap, ap₂, ◌∙◌}
use mathlib.Core.Bool.{false}
use mathlib.Core.List.{List}
use Rattle.loops.proofs.AnyLaws.{neither}
use Rattle.ranges.specs.declared.Section.TheVariants.{Timings, Entries}
use Rattle.ranges.specs.Sections.{greatest_of}
use Rattle.site.specs.declared.Site.{Site}
use Rattle.site.specs.Named.{timings_of, metered_lanes}
use Rattle.site.specs.Record.{spoilt_of, spoilt_site}
use Rattle.period.specs.Counting.{after_release}
use Rattle.wanted.specs.declared.wish.Wish.{Wish}
use Rattle.wanted.specs.Wish.{rate_of}
use Rattle.release.specs.Cycle.{cycle_ticks}
use Rattle.bypass.specs.Lanes.{doing_of}
use Rattle.group.specs.declared.Moved.{Moved}
use Rattle.group.specs.Group.{moved_of}
use Rattle.group.specs.Indications.{indications_of}
use Rattle.state.specs.declared.State.{State}
use Rattle.tick.specs.declared.Input.{Input}
use Rattle.tick.specs.Checks.{tick_refusal}
use Rattle.tick.specs.Tick.{counted_in, decided_in, cycle_in, moved_in, accepted_tick}
use Rattle.tick.proofs.TickLaws.{refusal_is, tick_is}
use Rattle.joining.specs.declared.PlanList.{PlanList}
use Rattle.joining.specs.Joining.{spoilt_list}
use Rattle.joining.specs.EndToEnd.{end_to_end, both_counts}
use Rattle.joining.specs.Decided.{with_plan, with_list, SameButPlace, SameDecisions}
use Rattle.joining.specs.Ticked.{SameTick, SameTicks}

-- A tick of two plans with the same wish.
module _ (x : Site) (u v : List ℕ) (m n : ℕ) (s : State) (i : Input)
    (same : SameButPlace (decided_in (with_plan x u m) s i) (decided_in (with_plan x v n) s i)) where
  same_cycle : cycle_in (with_plan x u m) s i ≡ cycle_in (with_plan x v n) s i
  unfolding cycle_in timings_of
  same_cycle = ap (λ (w : Wish). cycle_ticks (timings_of x).vehicles (rate_of w)) same.wish

  same_moved : moved_in (with_plan x u m) s i ≡ moved_in (with_plan x v n) s i
  unfolding moved_in timings_of
  same_moved = ap₂ (λ (w : Wish) (c : ℕ). moved_of (timings_of x) i.calls w c i.lanes s.group) same.wish same_cycle

  same_tick : SameTick (accepted_tick (with_plan x u m) s i) (accepted_tick (with_plan x v n) s i)
  unfolding accepted_tick counted_in timings_of
  same_tick = record {
    refusal = refl;
    state = ap (λ (k : Moved). record { group = k.group; periods = after_release (counted_in x s i) k.released }) same_moved;
    shown = ap (λ (k : Moved). indications_of k.group (metered_lanes x)) same_moved;
    decision = same;
    cycle = same_cycle;
    released = ap (λ (k : Moved). k.released) same_moved;
    bypass = ap (λ (k : Moved). doing_of (timings_of x) k.group.bypass k.group.lanes) same_moved;
  }

-- A plan that could be filed spoils no site, and lets none pass that another part spoils.
module _ (x : Site) (list : PlanList) (filed : spoilt_list list ≡ false) (sound : spoilt_site x ≡ false) where
  pub still_sound : spoilt_site (with_list x list) ≡ false
  unfolding spoilt_site
  still_sound =
      let p = neither _ _ sound in
      let t : spoilt_of Timings (greatest_of Timings) x.timings ≡ false = p.0 in
      rw (t, filed) (neither (spoilt_of Entries x.entries x.plan) _ p.1).1

  same_refusal : (s : State) (i : Input) → tick_refusal (with_list x list) s i ≡ tick_refusal x s i
  unfolding tick_refusal timings_of
  same_refusal s i = rw (still_sound, sound)

pub same_ticks : (first second list : PlanList) → spoilt_list list ≡ false → SameDecisions first second list → SameTicks first second list
unfolding decided_in counted_in timings_of
same_ticks first second list filed same = record {
  refusals = λ x s i sound. refusal_is (with_list x list) s i ∙ same_refusal x list filed sound s i ∙ sym (refusal_is x s i);
  accepted = λ x s i z.
      rw (tick_is (with_list x list) s i (sym (refusal_is (with_list x list) s i) ∙ z))
      (same_tick x list.rows (end_to_end first second) list.count (both_counts first second) s i
      (same x i.clock i.manual i.centre (counted_in x s i)));
}
