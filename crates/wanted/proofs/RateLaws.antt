-- Metering is wanted only at a rate from 150 to 1800: the rates of commands, of plan entries and of levels all are in that range.
use Prim.Native.Nat.{ℕ, ◌+◌, ◌-◌, ◌≤◌}
use mathlib.Core.Path.{◌≡◌, refl}
use mathlib.Core.Bool.{Bool, true, false, cond}
use native.Mathlib.Omega.{arith}
use borrow.Author.Tests.{ltb-false, eqb-true, eqb-false}
use lib.Dec.{ltb, eqb}
use Rattle.std.specs.Prelude.{Option, Some, None}
use Rattle.loops.proofs.AnyLaws.{neither}
use Rattle.site.specs.declared.Site.{Site}
use Rattle.site.specs.Record.{spoilt_site}
use Rattle.site.specs.Named.{mainline_lanes}
use Rattle.site.proofs.RowLaws.{entry_rate_ends, level_rate}
use Rattle.calendar.specs.declared.clock.Clock.{Clock}
use Rattle.inputs.specs.declared.Command.{Command}
use Rattle.inputs.specs.Commands.{command_bad, commands_bad}
use Rattle.inputs.proofs.CommandLaws.{command_rate}
use Rattle.plan.specs.Entry.{entry_of}
use Rattle.period.specs.declared.Periods.{Periods}
use Rattle.levels.specs.declared.measure.Measures.{Measures}
use Rattle.levels.specs.Measures.{measured_of}
use Rattle.levels.specs.Levels.{level_of, deciding_of}
use Rattle.levels.proofs.DecidingLaws.{deciding_in}
use Rattle.wanted.specs.declared.wish.Wish.{Wish}
use Rattle.wanted.specs.declared.wish.Wish.TheVariants.{Dark, Green, Metering, Clear}
use Rattle.wanted.specs.declared.wish.Source.{Source}
use Rattle.wanted.specs.declared.wish.Source.TheVariants.{Manual, Centre, Plan}
use Rattle.wanted.specs.declared.wish.Choice.{Choice}
use Rattle.wanted.specs.Wish.{rate_of, kind_of, planned_of, source_of, ruling_of, level_choice, measured_choice, responsive_choice, choice_of, choice}
use Rattle.wanted.specs.Decision.{entry_in_force, command_in_force, decision_of}
use Rattle.wanted.proofs.EntryLaws.{entry_in}

abbrev pub WishGood : Wish → Type 0
WishGood Dark = Unit {0}
WishGood Green = Unit {0}
WishGood (Metering rate) = (150 ≤ rate) × (rate ≤ 1800)
WishGood Clear = Unit {0}

-- What holds of no rate and of every rate from 150 on holds of a good wish's rate.
pub rate_cases : (w : Wish) (P : ℕ → Type 0) → WishGood w → P 0 → ((r : ℕ) → 150 ≤ r → P r) → P (rate_of w)
rate_cases Dark P g z f = z
rate_cases Green P g z f = z
rate_cases (Metering rate) P g z f = f rate g.0
rate_cases Clear P g z f = z

one_of : {A : Type 0} (P : A → Type 0) (b : Bool) (x y : A) → (b ≡ true → P x) → (b ≡ false → P y) → P (cond b x y)
one_of P true x y f g = f refl
one_of P false x y f g = g refl

-- A command that can give metering has a rate in range.
abbrev CommandGood : Command → Type 0
CommandGood c = 3 ≤ c.kind → (150 ≤ c.rate) × (c.rate ≤ 1800)

-- A choice is good if its wish is.
abbrev ChoiceGood : Choice → Type 0
ChoiceGood c = WishGood c.wish

-- Modes 2 and 3 are kinds 3 and 4.
mode_of : (mode : ℕ) → 3 ≤ kind_of mode → 2 ≤ mode
unfolding kind_of
mode_of mode = one_of (λ (k : ℕ). 3 ≤ k → 2 ≤ mode) (ltb mode 3) (mode + 1) 4 (λ e h. omega arith) (λ e h. omega (arith, ltb-false mode 3 e))

ruling_good : (source : Source) (manual centre planned : Command) → CommandGood manual → CommandGood centre → CommandGood planned
    → CommandGood (ruling_of source manual centre planned)
ruling_good Manual manual centre planned m c p = m
ruling_good Centre manual centre planned m c p = c
ruling_good Plan manual centre planned m c p = p

module _ (x : Site) (ok : spoilt_site x ≡ false) where
  planned_good : (place : ℕ) → place ≤ x.entries → CommandGood (planned_of x.plan place)
  unfolding planned_of
  planned_good place l =
      let row = entry_of x.plan (place - 1) in
      one_of CommandGood (eqb place 0) (record { kind = 1; rate = 0; table = 0 })
      (record { kind = kind_of row.mode; rate = row.rate; table = row.table })
      (λ e h. absurd (omega arith))
      (λ e h. entry_rate_ends x ok (place - 1) (omega (arith, eqb-false place 0 e)) (mode_of row.mode h))

  level_good : (place : ℕ) → place ≤ x.levels → ChoiceGood (level_choice x.tables place)
  unfolding level_choice
  level_good place l =
      one_of ChoiceGood (eqb place 0) (choice 0 Clear) (choice place (Metering (level_of x.tables (place - 1)).rate))
      (λ e. tt)
      (λ e. level_rate x ok (place - 1) (omega (arith, eqb-false place 0 e)))

  measured_good : (c : Command) (q : Option Measures) → (150 ≤ c.rate) × (c.rate ≤ 1800) → ChoiceGood (measured_choice c x.tables x.levels q)
  measured_good c None g = g
  measured_good c (Some q) g = level_good (deciding_of x.tables x.levels c.table q) (deciding_in x.tables c.table q x.levels)

  module _ (m : ℕ) (p : Periods) where
    responsive_good : (c : Command) → (150 ≤ c.rate) × (c.rate ≤ 1800) → ChoiceGood (responsive_choice c x.tables x.levels m p)
    unfolding responsive_choice
    responsive_good c g =
        one_of ChoiceGood (eqb p.serial 0) (choice 0 Clear) (measured_choice c x.tables x.levels (measured_of p.last m))
        (λ e. tt)
        (λ e. measured_good c (measured_of p.last m) g)

    choice_good : (c : Command) → CommandGood c → ChoiceGood (choice_of c x.tables x.levels m p)
    unfolding choice_of
    choice_good c g =
        one_of ChoiceGood (eqb c.kind 2) (choice 0 Green) _ (λ e. tt)
        (λ _. one_of ChoiceGood (eqb c.kind 3) (choice 0 (Metering c.rate)) _ (λ e. g (omega (arith, eqb-true c.kind 3 e)))
        (λ _. one_of ChoiceGood (eqb c.kind 4) (responsive_choice c x.tables x.levels m p) (choice 0 Dark)
        (λ e. responsive_good c (g (omega (arith, eqb-true c.kind 4 e))))
        (λ e. tt)))

  pub wish_good : (clock : Clock) (manual centre : Command) (p : Periods) → commands_bad manual centre ≡ false → WishGood (decision_of x clock manual centre p).wish
  unfolding commands_bad decision_of command_in_force
  wish_good clock manual centre p e =
      let both = neither (command_bad manual) (command_bad centre) e in
      choice_good (mainline_lanes x) p (command_in_force x clock manual centre)
      (ruling_good (source_of manual centre) manual centre (planned_of x.plan (entry_in_force x clock)) (command_rate manual both.0) (command_rate centre both.1)
      (planned_good (entry_in_force x clock) (entry_in x clock)))
