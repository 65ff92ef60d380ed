-- Document 02, A7: "A tick record is a row of two-byte numbers in sections, each after its count. Count 5: year, month, day, and the tenth
-- of the day as high and low halves. Count n: demand and passage per lane. Count m: working, occupied, vehicles and speed per lane. Count 2:
-- preemption and bypass. Count 2: kind, rate and table of each command, manual first." The speed is now a travel time (A8).
use Rattle.std.specs.Prelude.{ℕ, ◌+◌, ◌*◌, Bool, ◌&&◌, List, eqb, length, get_or}
use Rattle.numbers.specs.Words.{words}
use Rattle.tick_row.specs.Row.{clock_of, metered_of, mainline_of, calls_of, command_of}
use Rattle.tick.specs.declared.Input.{Input}

-- "One record is 36 + 4 × n + 8 × m bytes."
unfoldable pub record_size : ℕ → ℕ → ℕ
record_size n m = 36 + 4 * n + 8 * m

-- The places of the five counts among a record's numbers, at a site of n metered and m mainline lanes: each behind the section before.
abbrev pub clock_count : ℕ
clock_count = 0

unfoldable pub metered_count : ℕ
metered_count = clock_count + 1 + 5

unfoldable pub mainline_count : ℕ → ℕ
mainline_count n = metered_count + 1 + 2 * n

unfoldable pub calls_count : ℕ → ℕ → ℕ
calls_count n m = mainline_count n + 1 + 4 * m

unfoldable pub commands_count : ℕ → ℕ → ℕ
commands_count n m = calls_count n m + 1 + 2

-- Each count is what it should be.
unfoldable pub counts_right : List ℕ → ℕ → ℕ → Bool
counts_right w n m =
    eqb (get_or w clock_count 0) 5
    && (eqb (get_or w metered_count 0) n
    && (eqb (get_or w (mainline_count n) 0) m
    && (eqb (get_or w (calls_count n m) 0) 2 && eqb (get_or w (commands_count n m) 0) 2)))

-- The tick of a record's numbers: each section behind its count, "manual first".
unfoldable pub input_in : List ℕ → ℕ → ℕ → Input
input_in w n m = record {
  clock = clock_of w (clock_count + 1);
  lanes = metered_of w n (metered_count + 1);
  main = mainline_of w m (mainline_count n + 1);
  calls = calls_of w (calls_count n m + 1);
  manual = command_of w (commands_count n m + 1);
  centre = command_of w (commands_count n m + 1 + 3);
}

-- Whether these bytes are a record: "15: a record is cut short or has a wrong count". Its other numbers are looked at by the tick.
unfoldable pub is_record : List ℕ → ℕ → ℕ → Bool
is_record r n m = eqb (length r) (record_size n m) && counts_right (words r) n m

-- The tick of a record's bytes.
unfoldable pub record_input : List ℕ → ℕ → ℕ → Input
record_input r n m = input_in (words r) n m
