-- A tick as one row of numbers, in the order of document 02's tick record: year, month, day and the two halves of the tenth; demand and
-- passage of each metered lane; working, occupied, vehicles and travel time of each mainline lane; preemption and bypass; kind, rate and table of
-- the manual and then of the communications command. Replay's line and the test cases are read by this, and the tick record, which has
-- counts between, by its parts.
use Rattle.std.specs.Prelude.{ℕ, ◌+◌, ◌*◌, cond, List, [], ◌∷◌, ltb, get_or}
use Rattle.calendar.specs.declared.clock.Clock.{Clock}
use Rattle.inputs.specs.declared.Metered.{Metered}
use Rattle.inputs.specs.declared.Mainline.{Mainline}
use Rattle.inputs.specs.declared.Calls.{Calls}
use Rattle.inputs.specs.declared.Command.{Command}
use Rattle.tick.specs.declared.Input.{Input}

-- The number of two halves, "as high and low halves".
unfoldable pub long_of : ℕ → ℕ → ℕ
long_of high low = high * 65536 + low

-- "Year, month, day, and the tenth of the day as high and low halves", from this place on.
unfoldable pub clock_of : List ℕ → ℕ → Clock
clock_of row p = record {
  date = record { year = get_or row p 0; month = get_or row (p + 1) 0; day = get_or row (p + 2) 0 };
  tenth = long_of (get_or row (p + 3) 0) (get_or row (p + 4) 0);
}

-- A number of lane i, which stands at this place; 0 of a lane that there is not.
unfoldable pub of_lane : List ℕ → ℕ → ℕ → ℕ → ℕ
of_lane row lanes i place = cond (ltb i lanes) (get_or row place 0) 0

-- The same number of each metered lane, two numbers a lane.
unfoldable pub of_metered : List ℕ → ℕ → ℕ → List ℕ
of_metered row n p = of_lane row n 0 p ∷ of_lane row n 1 (p + 2) ∷ of_lane row n 2 (p + 4) ∷ of_lane row n 3 (p + 6) ∷ []

-- "Demand and passage per lane", from this place on.
unfoldable pub metered_of : List ℕ → ℕ → ℕ → Metered
metered_of row n p = record { demand = of_metered row n p; passage = of_metered row n (p + 1) }

-- The same number of each mainline lane, four numbers a lane.
unfoldable pub of_mainline : List ℕ → ℕ → ℕ → List ℕ
of_mainline row m p =
    of_lane row m 0 p ∷ of_lane row m 1 (p + 4) ∷ of_lane row m 2 (p + 8) ∷ of_lane row m 3 (p + 12) ∷ of_lane row m 4 (p + 16) ∷ of_lane row m 5 (p + 20) ∷ []

-- "Working, occupied, vehicles and speed per lane", the travel time in place of the speed, from this place on.
unfoldable pub mainline_of : List ℕ → ℕ → ℕ → Mainline
mainline_of row m p = record {
  working = of_mainline row m p;
  occupied = of_mainline row m (p + 1);
  vehicles = of_mainline row m (p + 2);
  time = of_mainline row m (p + 3);
}

-- "Preemption and bypass", from this place on.
unfoldable pub calls_of : List ℕ → ℕ → Calls
calls_of row p = record { preemption = get_or row p 0; bypass = get_or row (p + 1) 0 }

-- "Kind, rate and table", from this place on.
unfoldable pub command_of : List ℕ → ℕ → Command
command_of row p = record { kind = get_or row p 0; rate = get_or row (p + 1) 0; table = get_or row (p + 2) 0 }

-- Where the mainline lanes' numbers, the calls and the commands' numbers begin, and how many numbers there are, of n metered and m mainline
-- lanes.
unfoldable pub mainline_at : ℕ → ℕ
mainline_at n = 5 + 2 * n

unfoldable pub calls_at : ℕ → ℕ → ℕ
calls_at n m = mainline_at n + 4 * m

unfoldable pub commands_at : ℕ → ℕ → ℕ
commands_at n m = calls_at n m + 2

unfoldable pub row_size : ℕ → ℕ → ℕ
row_size n m = commands_at n m + 6

-- The longest row, that of four metered and six mainline lanes: law `longest_row_lem`.
abbrev pub longest_row : ℕ
longest_row = 45

-- The tick of a row; "manual first".
unfoldable pub input_of : List ℕ → ℕ → ℕ → Input
input_of row n m = record {
  clock = clock_of row 0;
  lanes = metered_of row n 5;
  main = mainline_of row m (mainline_at n);
  calls = calls_of row (calls_at n m);
  manual = command_of row (commands_at n m);
  centre = command_of row (commands_at n m + 3);
}
