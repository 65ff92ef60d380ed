-- A list of ticks since power-up, refused ones included. All of it is what the rules give from the sites and inputs handed in; the calls
-- promise that what they return is that.
use Rattle.std.specs.Prelude.{ℕ, Bool, cond, List}
use Rattle.std.specs.Option.{is_none}
use Rattle.runs.specs.Runs.{after, AtEach, accepted_in}
use Rattle.site.specs.declared.Site.{Site}
use Rattle.group.specs.declared.indication.Indications.{Indications}
use Rattle.group.specs.Indications.{all_dark}
use Rattle.state.specs.declared.State.{State}
use Rattle.tick.specs.declared.Input.{Input}
use Rattle.tick.specs.declared.Ticked.{Ticked}
use Rattle.tick.specs.Tick.{power_up_of, tick_of}

-- A tick as it is handed in, with any site and input.
pub record Call : Type 0 where
  pub site : Site
  pub input : Input

-- What a list of ticks has come to: the state, and the indications of the last accepted tick; before one there are none, all dark.
pub record Course : Type 0 where
  pub state : State
  pub shown : Indications

unfoldable pub at_power_up : Site → Course
at_power_up x = record { state = (power_up_of x).state; shown = all_dark }

-- "Each tick is given the state that power-up or the tick before returned."
unfoldable pub answer_to : Course → Call → Ticked
answer_to c call = tick_of call.site c.state call.input

unfoldable pub is_accepted : Course → Call → Bool
is_accepted c call = is_none (answer_to c call).refusal

unfoldable pub onward : Course → Call → Course
onward c call = record { state = (answer_to c call).state; shown = cond (is_accepted c call) (answer_to c call).shown c.shown }

-- What a list of ticks comes to; what holds at each accepted one; how many are accepted.
abbrev pub course_after : Course → List Call → Course
course_after = after onward

abbrev pub AtAccepted : (Course → Call → Type 0) → Course → List Call → Type 0
AtAccepted = AtEach onward is_accepted

abbrev pub accepted_ticks : Course → List Call → ℕ
accepted_ticks = accepted_in onward is_accepted
