-- The level of a decision is the one that whole numbers decide, and the wish is what it gives: the counts of a period in range have a speed whose tests are of whole numbers.
use Prim.Native.Nat.{ℕ, ◌+◌, ◌-◌, ◌≤◌}
use mathlib.Core.Path.{◌≡◌, refl, sym, ap, subst, ◌∙◌}
use mathlib.Core.Bool.{Bool}
use mathlib.Core.List.{List}
use native.Mathlib.Omega.{arith}
use borrow.Author.Tests.{eq-eqb, ne_eqb, eqb-true}
use lib.Dec.{eqb}
use Rattle.loops.proofs.Cases.{by_test}
use Rattle.site.specs.declared.Site.{Site}
use Rattle.site.specs.Named.{mainline_lanes}
use Rattle.calendar.specs.declared.clock.Clock.{Clock}
use Rattle.inputs.specs.declared.Command.{Command}
use Rattle.period.specs.declared.Periods.{Periods}
use Rattle.period.specs.Range.{last_ticks}
use Rattle.period.proofs.RangeLaws.{PeriodsGood, last_most}
use Rattle.levels.specs.Measures.{measures_of, measured_of}
use Rattle.levels.specs.Levels.{level_of, deciding_of, ListedLast}
use Rattle.levels.proofs.DecidingLaws.{is_listed_last}
use Rattle.levels.proofs.ExactLaws.{by_counts}
use Rattle.wanted.specs.declared.wish.Choice.{Choice}
use Rattle.wanted.specs.declared.wish.Wish.TheVariants.{Metering, Clear}
use Rattle.wanted.specs.Wish.{choice, level_choice, responsive_choice, choice_of}
use Rattle.wanted.specs.Decision.{command_in_force, decision_of}
use Rattle.wanted.specs.Levelled.{last_totals, Levelled}

-- What is asked of each level may be said in another way.
same_asked : (f g : ℕ → Bool) (count place : ℕ) → ((j : ℕ) → f j ≡ g j) → ListedLast f count place → ListedLast g count place
same_asked f g count place same l = record {
  none = λ z j h. sym (same j) ∙ l.none z j h;
  one_of_them = λ k z. ((l.one_of_them k z).0, sym (same k) ∙ (l.one_of_them k z).1);
  listed_last = λ k j z h i. sym (same j) ∙ l.listed_last k j z h i;
}

-- A level's choice names the level, and gives its rate; without one it is clear.
level_kept : (rows : List ℕ) (place : ℕ) → (level_choice rows place).level ≡ place
unfolding level_choice
level_kept rows place = by_test (eqb place 0) (λ e. rw e (sym (eqb-true place 0 e))) (λ e. rw e)

level_rate : (rows : List ℕ) (k : ℕ) → (level_choice rows (k + 1)).wish ≡ Metering (level_of rows k).rate
unfolding level_choice
level_rate rows k = let e : k + 1 - 1 ≡ k = omega arith in rw (ne_eqb (k + 1) 0 (λ z. omega arith), e)

no_level : (rows : List ℕ) → (level_choice rows 0).wish ≡ Clear
unfolding level_choice
no_level rows = refl

-- A command's choice.
module _ (x : Site) (c : Command) (p : Periods) where
  abbrev deciding : ℕ
  deciding = deciding_of x.tables x.levels c.table (measures_of (last_totals x p))

  of_responsive : c.kind ≡ 4 → 1 ≤ p.serial → 1 ≤ (last_totals x p).lanes
      → choice_of c x.tables x.levels (mainline_lanes x) p ≡ level_choice x.tables deciding
  unfolding choice_of responsive_choice measured_of
  of_responsive k s l =
      rw (
        ne_eqb c.kind 2 (λ z. omega arith),
        ne_eqb c.kind 3 (λ z. omega arith),
        eq-eqb c.kind 4 k,
        ne_eqb p.serial 0 (λ z. omega arith),
        ne_eqb (last_totals x p).lanes 0 (λ z. omega arith),
      )

  of_no_period : c.kind ≡ 4 → p.serial ≡ 0 → choice_of c x.tables x.levels (mainline_lanes x) p ≡ choice 0 Clear
  unfolding choice_of responsive_choice
  of_no_period k z = rw (ne_eqb c.kind 2 (λ y. omega arith), ne_eqb c.kind 3 (λ y. omega arith), eq-eqb c.kind 4 k, eq-eqb p.serial 0 z)

  of_no_good_lane : c.kind ≡ 4 → 1 ≤ p.serial → (last_totals x p).lanes ≡ 0
      → choice_of c x.tables x.levels (mainline_lanes x) p ≡ choice 0 (Metering c.rate)
  unfolding choice_of responsive_choice measured_of
  of_no_good_lane k s z =
      rw (
        ne_eqb c.kind 2 (λ y. omega arith),
        ne_eqb c.kind 3 (λ y. omega arith),
        eq-eqb c.kind 4 k,
        ne_eqb p.serial 0 (λ y. omega arith),
        eq-eqb (last_totals x p).lanes 0 z,
      )

  of_other : (c.kind ≡ 4 → ⊥) → (choice_of c x.tables x.levels (mainline_lanes x) p).level ≡ 0
  unfolding choice_of
  of_other f =
      let four = ne_eqb c.kind 4 f in
      by_test (eqb c.kind 2) (λ e. rw e) (λ e. by_test (eqb c.kind 3) (λ d. rw (e, d)) (λ d. rw (e, d, four)))

  module _ (n : ℕ) (lanes : mainline_lanes x ≤ 6) (g : PeriodsGood p n (mainline_lanes x)) where
    abbrev chosen : Choice
    chosen = choice_of c x.tables x.levels (mainline_lanes x) p

    named : c.kind ≡ 4 → 1 ≤ p.serial → 1 ≤ (last_totals x p).lanes → chosen.level ≡ deciding
    named k s l = ap (λ (h : Choice). h.level) (of_responsive k s l) ∙ level_kept x.tables deciding

    given : c.kind ≡ 4 → 1 ≤ p.serial → 1 ≤ (last_totals x p).lanes → (place : ℕ) → chosen.level ≡ place → chosen.wish ≡ (level_choice x.tables place).wish
    given k s l place e =
        ap (λ (h : Choice). h.wish) (of_responsive k s l) ∙ ap (λ (q : ℕ). (level_choice x.tables q).wish) (sym (named k s l) ∙ e)

    choice_levelled : Levelled x c p chosen.level chosen.wish
    choice_levelled = record {
      responsive = λ k s l.
          subst (ListedLast _ x.levels) (sym (named k s l))
          (same_asked _ _ x.levels _
          (λ j. by_counts p.last n (mainline_lanes x) (last_ticks p.serial) (last_most p.serial) lanes g.last (level_of x.tables j) c.table)
          (is_listed_last x.tables c.table (measures_of (last_totals x p)) x.levels));
      metering = λ k s l i e. given k s l (i + 1) e ∙ level_rate x.tables i;
      clear = λ k s l e. given k s l 0 e ∙ no_level x.tables;
      no_period = λ k z. let e = of_no_period k z in (ap (λ (h : Choice). h.level) e, ap (λ (h : Choice). h.wish) e);
      no_good_lane = λ k s z. let e = of_no_good_lane k s z in (ap (λ (h : Choice). h.level) e, ap (λ (h : Choice). h.wish) e);
      other = of_other;
    }

pub levelled : (x : Site) (clock : Clock) (manual centre : Command) (p : Periods) (n : ℕ) → mainline_lanes x ≤ 6 → PeriodsGood p n (mainline_lanes x)
    → Levelled x (command_in_force x clock manual centre) p (decision_of x clock manual centre p).level (decision_of x clock manual centre p).wish
unfolding decision_of
levelled x clock manual centre p n lanes g = choice_levelled x (command_in_force x clock manual centre) p n lanes g
