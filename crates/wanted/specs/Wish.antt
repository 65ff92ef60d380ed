-- Document 01, 'What is wanted'.
use Rattle.std.specs.Prelude.{ℕ, ◌+◌, ◌-◌, cond, List, ltb, eqb, Option, Some, None}
use Rattle.inputs.specs.declared.Command.{Command}
use Rattle.plan.specs.Entry.{entry_of}
use Rattle.period.specs.declared.Periods.{Periods}
use Rattle.levels.specs.declared.measure.Measures.{Measures}
use Rattle.levels.specs.Measures.{measured_of}
use Rattle.levels.specs.Levels.{level_of, deciding_of}
use Rattle.wanted.specs.declared.wish.Wish.{Wish}
use Rattle.wanted.specs.declared.wish.Wish.TheVariants.{Dark, Green, Metering, Clear}
use Rattle.wanted.specs.declared.wish.Source.{Source}
use Rattle.wanted.specs.declared.wish.Source.TheVariants.{Manual, Centre, Plan}
use Rattle.wanted.specs.declared.wish.Choice.{Choice}

-- The rate of each wish: "dark, green, metering at a rate, or clear"; 0 for none.
abbrev pub rate_of : Wish → ℕ
rate_of Dark = 0
rate_of Green = 0
rate_of (Metering rate) = rate
rate_of Clear = 0

-- An entry's mode as a command's kind: modes 0 to 3 are kinds 1 to 4.
unfoldable pub kind_of : ℕ → ℕ
kind_of mode = cond (ltb mode 3) (mode + 1) 4

-- The entry in force as a command. "With none, dark." The place counts from 1.
unfoldable pub planned_of : List ℕ → ℕ → Command
planned_of rows place =
    cond (eqb place 0) (record { kind = 1; rate = 0; table = 0 })
    (record { kind = kind_of (entry_of rows (place - 1)).mode; rate = (entry_of rows (place - 1)).rate; table = (entry_of rows (place - 1)).table })

-- Who rules: "A manual command of kind 1-4 rules; else communications; else the entry."
unfoldable pub source_of : Command → Command → Source
source_of manual centre = cond (eqb manual.kind 0) (cond (eqb centre.kind 0) Plan Centre) Manual

-- The command of who rules.
abbrev pub ruling_of : Source → Command → Command → Command → Command
ruling_of Manual manual centre planned = manual
ruling_of Centre manual centre planned = centre
ruling_of Plan manual centre planned = planned

abbrev pub choice : ℕ → Wish → Choice
choice level wish = record { level = level; wish = wish }

-- "The level .. decides, and gives metering at its rate; none met gives clear."
unfoldable pub level_choice : List ℕ → ℕ → Choice
level_choice rows place = cond (eqb place 0) (choice 0 Clear) (choice place (Metering (level_of rows (place - 1)).rate))

-- "No good lane: metering at the command's or entry's rate." Otherwise the levels.
abbrev pub measured_choice : Command → List ℕ → ℕ → Option Measures → Choice
measured_choice c rows count None = choice 0 (Metering c.rate)
measured_choice c rows count (Some q) = level_choice rows (deciding_of rows count c.table q)

-- "A responsive one looks at the last completed period. No period: clear."
unfoldable pub responsive_choice : Command → List ℕ → ℕ → ℕ → Periods → Choice
responsive_choice c rows count m p = cond (eqb p.serial 0) (choice 0 Clear) (measured_choice c rows count (measured_of p.last m))

-- "1 dark, 2 green, 3 fixed, 4 responsive."
unfoldable pub choice_of : Command → List ℕ → ℕ → ℕ → Periods → Choice
choice_of c rows count m p =
    cond (eqb c.kind 2) (choice 0 Green)
    (cond (eqb c.kind 3) (choice 0 (Metering c.rate)) (cond (eqb c.kind 4) (responsive_choice c rows count m p) (choice 0 Dark)))
