-- The minute at which a day's listing goes on: the code passes over the minutes at which nothing starts.
use Rattle.std.specs.Prelude.{ℕ, zero, suc, cond, ◌&&◌, List, leb}
use Rattle.plan.specs.Entry.{entry_of}
use Rattle.listing.specs.Timetable.{day_minutes}

-- A start, if it is at or after a minute of the day and no later than the best so far; else that one.
unfoldable pub earlier_of : ℕ → ℕ → ℕ → ℕ
earlier_of start from best = cond (leb from start && leb start best) start best

-- The earliest start at or after a minute of the day, among the first n entries; the day's end where there is none.
abbrev pub next_start_of : List ℕ → ℕ → ℕ → ℕ
next_start_of rows from zero = day_minutes
next_start_of rows from (suc n) = earlier_of (entry_of rows n).start from (next_start_of rows from n)
