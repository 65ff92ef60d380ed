-- What the parts of a tick's input and their numbers are called, and the refusal of each part.
use Rattle.std.specs.Prelude.{ℕ, ◌+◌, List, [], ◌++◌}
use Rattle.text.specs.Ascii.{ascii}
use Rattle.text.specs.Items.{item}
use Rattle.phrases.specs.Phrases.{blank_and_decimal}
use Rattle.refusals.specs.declared.Refusal.{Refusal}
use Rattle.refusals.specs.declared.Refusal.TheVariants.{BadClock, BadSample, BadCommand}
use Rattle.tick_diagnosis.specs.declared.number.Part.{Part}
use Rattle.tick_diagnosis.specs.declared.number.Part.TheVariants.{TheClock, MeteredLane, MainlineLane, TheCalls, Manual, Communications}

-- 8 bad clock, 9 bad sample, 10 bad command.
abbrev pub refusal_of : Part → Refusal
refusal_of TheClock = BadClock
refusal_of (MeteredLane i) = BadSample
refusal_of (MainlineLane j) = BadSample
refusal_of TheCalls = BadSample
refusal_of Manual = BadCommand
refusal_of Communications = BadCommand

-- A lane, counted from 1: `metered lane 2, `.
unfoldable pub lane_text : List ℕ → ℕ → List ℕ
lane_text name i = name ++ (blank_and_decimal (i + 1) ++ ascii ", ")

-- Whose number it is; the clock and the calls need no word.
abbrev pub part_text : Part → List ℕ
part_text TheClock = []
part_text (MeteredLane i) = lane_text (ascii "metered lane") i
part_text (MainlineLane j) = lane_text (ascii "mainline lane") j
part_text TheCalls = []
part_text Manual = ascii "manual, "
part_text Communications = ascii "communications, "

-- The name of a part's number.
abbrev pub name_text : Part → ℕ → List ℕ
name_text TheClock column = item (ascii "year,month,day,tenth") column
name_text (MeteredLane i) column = item (ascii "demand,passage") column
name_text (MainlineLane j) column = item (ascii "working,occupied,vehicles,time") column
name_text TheCalls column = item (ascii "preemption,bypass") column
name_text Manual column = item (ascii "kind,rate,table") column
name_text Communications column = item (ascii "kind,rate,table") column
