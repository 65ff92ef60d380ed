-- Document 02, A7, in its own words: "State and output equal those of single calls." "It stops at the first refusal." "The refusal rule now
-- speaks of the refused record alone; ticks accepted before it stand."
use Rattle.std.specs.Prelude.{ℕ, ◌-◌, ◌<◌, ◌≡◌, List, [], ◌∷◌, ◌++◌, length, get_or, take, None}
use Rattle.site.specs.declared.Site.{Site}
use Rattle.site.specs.Named.{metered_lanes}
use Rattle.tick.specs.Course.{Call, Course, answer_to, onward, course_after, accepted_ticks}
use Rattle.many_ticks.specs.Many.{input_at, shown_bytes, record_refusal, Run}

-- Records as single calls of the tick, one after the other.
abbrev pub calls_at : Site → List (List ℕ) → List Call
calls_at x [] = []
calls_at x (r ∷ records) = record { site = x; input = input_at x r } ∷ calls_at x records

-- What single calls show, one behind the other.
abbrev pub shown_by : Site → Course → List Call → List ℕ
shown_by x c [] = []
shown_by x c (call ∷ calls) = shown_bytes (metered_lanes x) (answer_to c call).shown ++ shown_by x (onward c call) calls

-- What a run from this course, with these records and so much room, comes to.
pub record Singly (x : Site) (c : Course) (records : List (List ℕ)) (room : ℕ) (run : Run) : Type 0 where
  -- Single calls on the first records, as many as the run says, are all accepted;
  pub accepted : accepted_ticks c (calls_at x (take run.accepted records)) ≡ run.accepted
  -- the run's state is the one that they leave;
  pub state : (course_after c (calls_at x (take run.accepted records))).state ≡ run.state
  -- its output is what they show.
  pub laid : shown_by x c (calls_at x (take run.accepted records)) ≡ run.laid
  -- With no refusal there is no further record;
  pub at_end : run.refusal ≡ None → run.accepted ≡ length records
  -- else there is one, which is refused so, in that state and in what is left of the room.
  pub more : (run.refusal ≡ None → ⊥) → run.accepted < length records
  pub refused : (run.refusal ≡ None → ⊥) → record_refusal x run.state (room - length run.laid) (get_or records run.accepted []) ≡ run.refusal
