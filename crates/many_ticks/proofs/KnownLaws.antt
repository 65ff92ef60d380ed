-- A decision goes by the date, the minute, the two commands and what was completed, and by nothing else; and while a period is open, a tick
-- completes nothing.
use Prim.Native.Nat.{ℕ}
use mathlib.Core.Path.{◌≡◌, refl, sym, ◌∙◌}
use mathlib.Core.Bool.{cond}
use Rattle.std.specs.Prelude.{Option, Some, None}
use Rattle.std.proofs.lemmas.Option.{none-some}
use borrow.Author.Tests.{eqb-true, eqb-false, ne_eqb}
use lib.Dec.{ltb, eqb}
use Rattle.loops.proofs.Cases.{by_test}
use Rattle.site.specs.declared.Site.{Site}
use Rattle.site.specs.Named.{metered_lanes, mainline_lanes}
use Rattle.inputs.specs.declared.Metered.{Metered}
use Rattle.inputs.specs.declared.Mainline.{Mainline}
use Rattle.period.specs.declared.Periods.{Periods}
use Rattle.period.specs.Counting.{closed_of, after_tick, after_release}
use Rattle.wanted.specs.Wish.{responsive_choice, choice_of}
use Rattle.wanted.specs.Decision.{day_of, entry_in_force, command_in_force, decision_of}
use Rattle.state.specs.declared.State.{State}
use Rattle.tick.specs.declared.Input.{Input}
use Rattle.tick.specs.Tick.{counted_in, decided_of, accepted_tick}
use Rattle.many_ticks.specs.declared.known.Known.{Known}
use Rattle.many_ticks.specs.Known.{Asked, Holds}

pub same_decided : (x : Site) (k : Known) (i j : Input) (p q : Periods) → Asked k i → Asked k j → q.serial ≡ p.serial → q.last ≡ p.last → decided_of x i q ≡ decided_of x j p
unfolding decided_of decision_of day_of entry_in_force command_in_force choice_of responsive_choice
same_decided x k i j p q a b serial last = rw (serial, last, a.date, a.minute, a.manual, a.centre, b.date, b.minute, b.manual, b.centre)

-- What was decided anew is kept rightly.
pub holds_anew : (x : Site) (k : Known) (i : Input) (p : Periods) → Asked k i → k.decided ≡ decided_of x i p → Holds x (Some k) p
unfolding Holds
holds_anew x k i p asked is j a q serial last = same_decided x k j i p q a asked serial last ∙ sym is

-- It holds on with what has completed the same, and where nothing is kept.
pub holds_on : (x : Site) (k : Option Known) (p q : Periods) → q.serial ≡ p.serial → q.last ≡ p.last → Holds x k p → Holds x k q
unfolding Holds
holds_on x None p q serial last h = tt
holds_on x (Some k) p q serial last h = λ i a r rs rl. h i a r (rs ∙ serial) (rl ∙ last)

pub holds_nothing : (x : Site) (k : Option Known) (p : Periods) → k ≡ None → Holds x k p
unfolding Holds
holds_nothing x None p none = tt
holds_nothing x (Some k) p none = absurd (none-some k (sym none))

-- Where the tick leaves a period open, it completes nothing,
module _ (p : Periods) (lanes : Metered) (main : Mainline) (n m : ℕ) (more : (after_tick p lanes main n m).ticks ≡ 0 → ⊥) where
  pub same_completed : ((after_tick p lanes main n m).serial ≡ p.serial) × ((after_tick p lanes main n m).last ≡ p.last)
  unfolding after_tick closed_of
  same_completed = by_test (ltb p.ticks 299) (λ e. rw e (refl, refl)) (λ e. absurd (more (rw e refl)))

-- nor does its release.
module _ (p : Periods) (released : ℕ) (more : p.ticks ≡ 0 → ⊥) where
  pub same_released : ((after_release p released).serial ≡ p.serial) × ((after_release p released).last ≡ p.last)
  unfolding after_release
  same_released =
      by_test (eqb released 0) (λ a. rw a (refl, refl)) (λ a. rw (a, ne_eqb p.ticks 0 more) (refl, refl))

pub holds_after : (x : Site) (k : Option Known) (p : Periods) (released : ℕ) → (p.ticks ≡ 0 → k ≡ None) → Holds x k p → Holds x k (after_release p released)
holds_after x k p released closing h =
    by_test (eqb p.ticks 0)
    (λ e. holds_nothing x k (after_release p released) (closing (eqb-true p.ticks 0 e)))
    (λ e. let same = same_released p released (eqb-false p.ticks 0 e) in holds_on x k p (after_release p released) same.0 same.1 h)

-- So what is known holds on over a tick that is counted, unless a period is completed at it, and over the whole of an accepted tick.
module _ (x : Site) (k : Option Known) (s : State) (i : Input) where
  pub holds_counted : Holds x k s.periods → ((counted_in x s i).ticks ≡ 0 → ⊥) → Holds x k (counted_in x s i)
  unfolding counted_in
  holds_counted h more =
      let same = same_completed s.periods i.lanes i.main (metered_lanes x) (mainline_lanes x) more in
      holds_on x k s.periods _ same.0 same.1 h

  pub holds_accepted : ((counted_in x s i).ticks ≡ 0 → k ≡ None) → Holds x k (counted_in x s i) → Holds x k (accepted_tick x s i).state.periods
  unfolding accepted_tick
  holds_accepted closing h = holds_after x k (counted_in x s i) _ closing h

-- What is kept behind a tick holds as what it decided does, and is nothing where a period was completed.
pub kept_holds : (x : Site) (k : Known) (p q : Periods) → Holds x (Some k) p → Holds x (cond (eqb q.ticks 0) None (Some k)) p
kept_holds x k p q h =
    by_test (eqb q.ticks 0) (λ e. rw e (holds_nothing x None p refl)) (λ e. rw e h)

pub kept_nothing : (k : Known) (q : Periods) → q.ticks ≡ 0 → cond (eqb q.ticks 0) None (Some k) ≡ None
kept_nothing k q z = rw z
