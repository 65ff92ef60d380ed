-- What was decided, in a tick's line.
use Rattle.std.specs.Prelude.{ℕ, cond, List, ◌++◌}
use Rattle.std.specs.Option.{is_some}
use Rattle.text.specs.Ascii.{ascii}
use Rattle.phrases.specs.Phrases.{day_name, blank_and_decimal}
use Rattle.wanted.specs.declared.wish.Wish.{Wish}
use Rattle.wanted.specs.declared.wish.Wish.TheVariants.{Dark, Green, Metering, Clear}
use Rattle.wanted.specs.declared.wish.Source.{Source}
use Rattle.wanted.specs.declared.wish.Source.TheVariants.{Manual, Centre, Plan}
use Rattle.wanted.specs.declared.Decision.{Decision}
use Rattle.wanted.specs.Wish.{rate_of}
use Rattle.bypass.specs.declared.Doing.{Doing}
use Rattle.bypass.specs.declared.Doing.TheVariants.{None, Waits, Runs}
use Rattle.tick.specs.declared.Ticked.{Ticked}

-- The source that rules (`manual`, `centre`, or `plan`).
abbrev pub source_text : Source → List ℕ
source_text Manual = ascii " manual"
source_text Centre = ascii " centre"
source_text Plan = ascii " plan"

-- The wish (`dark`, `green`, `meter`, `clear`).
abbrev pub wish_text : Wish → List ℕ
wish_text Dark = ascii " dark"
wish_text Green = ascii " green"
wish_text (Metering rate) = ascii " meter"
wish_text Clear = ascii " clear"

-- The day (Sun to Sat, Hol), the place of the entry in force from 1 or 0, the source that rules.
unfoldable pub ruling_text : Decision → List ℕ
ruling_text d = ascii " " ++ (day_name d.day ++ (blank_and_decimal d.entry ++ source_text d.source))

-- The place of the level that decided from 1 or 0, the wish, its rate or 0.
unfoldable pub wished_text : Decision → List ℕ
wished_text d = blank_and_decimal d.level ++ (wish_text d.wish ++ blank_and_decimal (rate_of d.wish))

unfoldable pub decision_text : Decision → List ℕ
decision_text d = ruling_text d ++ wished_text d

-- What the bus bypass does (`none`, `waits`, `runs`).
abbrev pub bypass_text : Doing → List ℕ
bypass_text None = ascii " none"
bypass_text Waits = ascii " waits"
bypass_text Runs = ascii " runs"

-- Of an accepted tick what was decided, the cycle or 0, the lane released or 0, what the bus bypass does.
unfoldable pub accepted_text : Ticked → List ℕ
accepted_text t = decision_text t.decision ++ (blank_and_decimal t.cycle ++ (blank_and_decimal t.released ++ bypass_text t.bypass))

-- Of a refused one nine times `-`.
unfoldable pub decided_text : Ticked → List ℕ
decided_text t = cond (is_some t.refusal) (ascii " - - - - - - - - -") (accepted_text t)
