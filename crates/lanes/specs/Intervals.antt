-- Document 01, 'Lanes in metering': a lane's colour, 1 red, 2 yellow, 3 green, and its numbers from one tick to the next.
use Rattle.std.specs.Prelude.{ℕ, ◌+◌, Bool, true, false, cond, ◌&&◌, ◌||◌, ltb, leb, eqb}
use Rattle.timings.specs.declared.Timings.{Timings}
use Rattle.lanes.specs.declared.Lane.{Lane}
use Rattle.lanes.specs.declared.Ending.{Ending}
use Rattle.lanes.specs.declared.Ending.TheVariants.{Ordinary, Cut, Held, Now}

abbrev pub lane : ℕ → ℕ → ℕ → ℕ → Lane
lane colour age counter passages = record { colour = colour; age = age; counter = counter; passages = passages }

-- "Ages and counters rise by one a tick and stop at 720."
unfoldable pub rise_of : ℕ → ℕ
rise_of x = cond (ltb x 720) (x + 1) 720

-- The passages of a green: "its first tick not counted, the present one counted; the count stops at 3".
unfoldable pub passages_of : ℕ → ℕ → ℕ
passages_of count passage = cond (eqb passage 1) (cond (ltb count 3) (count + 1) count) count

-- "Green ends at an age of minimum green or more with V passages since it began .., or at maximum green."
unfoldable pub green_ends : Timings → ℕ → ℕ → Bool
green_ends t age passages = (leb t.mingreen age && leb t.vehicles passages) || leb t.maxgreen age

-- Whether a green of this age ends at a tick, by the tick's rule for its lane (document 02, A4): the ordinary one; "at minimum green"; "it
-- stays green whatever its passage count and beyond the maximum"; "at the tick of the end, whatever its age".
abbrev pub ends_by : Timings → Ending → ℕ → ℕ → Bool
ends_by t Ordinary age passages = green_ends t age passages
ends_by t Cut age passages = leb t.mingreen age
ends_by t Held age passages = false
ends_by t Now age passages = true

-- A new colour's age is 0.
unfoldable pub green_at : Timings → Ending → ℕ → ℕ → ℕ → Lane
green_at t ending age counter passages = cond (ends_by t ending age passages) (lane 2 0 counter passages) (lane 3 age counter passages)

-- "Yellow ends at its time." "The passage count stands still in yellow and red."
unfoldable pub yellow_at : Timings → ℕ → ℕ → ℕ → Lane
yellow_at t age counter passages = cond (leb t.yellow age) (lane 1 0 counter passages) (lane 2 age counter passages)

-- A lane one tick later, not released.
unfoldable pub lane_tick : Timings → Ending → Lane → ℕ → Lane
lane_tick t ending l passage =
    cond (eqb l.colour 3) (green_at t ending (rise_of l.age) (rise_of l.counter) (passages_of l.passages passage))
    (cond (eqb l.colour 2) (yellow_at t (rise_of l.age) (rise_of l.counter) l.passages)
    (lane l.colour (rise_of l.age) (rise_of l.counter) l.passages))

-- "Red at least the minimum."
unfoldable pub has_been_red : Timings → Lane → Bool
has_been_red t l = eqb l.colour 1 && leb t.minred l.age
