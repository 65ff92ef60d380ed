-- Document 01, 'The site file', plan entries: "days 1-255 (bit 0 Sunday to bit 6 Saturday, bit 7 Holiday); start minute; mode; rate; level
-- table".
use Rattle.std.specs.Prelude.{ℕ, ◌+◌, ◌*◌, ◌/◌, ◌%◌, ◌^◌, Bool, false, cond, List, ltb, eqb, get_or}
use Rattle.ranges.specs.declared.Section.TheVariants.{Entries}
use Rattle.ranges.specs.Sections.{width_of}
use Rattle.plan.specs.declared.Entry.{Entry}

-- Entry i of a plan's rows, the first being 0.
abbrev pub entry_of : List ℕ → ℕ → Entry
entry_of rows i =
    let at : ℕ = i * width_of Entries in
    record {
      days = get_or rows at 0;
      start = get_or rows (at + 1) 0;
      mode = get_or rows (at + 2) 0;
      rate = get_or rows (at + 3) 0;
      table = get_or rows (at + 4) 0;
    }

-- Sunday to Saturday, and Holiday.
abbrev pub day_types : ℕ
day_types = 8

-- Whether the day mask has the bit of this day type.
unfoldable pub on_day : ℕ → ℕ → Bool
on_day days day = cond (ltb day day_types) (eqb (days / 2 ^ day % 2) 1) false
