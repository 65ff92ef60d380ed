-- What a site file's sections, rows and numbers are called.
use Rattle.std.specs.Prelude.{ℕ, ◌+◌, List, ◌++◌}
use Rattle.text.specs.Ascii.{ascii}
use Rattle.text.specs.Items.{item}
use Rattle.phrases.specs.Phrases.{blank_and_decimal}
use Rattle.ranges.specs.declared.Section.{Section}
use Rattle.ranges.specs.declared.Section.TheVariants.{Timings, Entries, Holidays, Levels}
use Rattle.ranges.specs.Sections.{row_of, column_of}

-- The rows of a section.
abbrev pub rows_text : Section → List ℕ
rows_text Timings = ascii "timings"
rows_text Entries = ascii "plan entries"
rows_text Holidays = ascii "holidays"
rows_text Levels = ascii "levels"

-- One of them.
abbrev pub row_text : Section → List ℕ
row_text Timings = ascii "timing"
row_text Entries = ascii "plan entry"
row_text Holidays = ascii "holiday"
row_text Levels = ascii "level"

-- The name of number i of a section: a timing's, or that of its column.
abbrev pub name_text : Section → ℕ → List ℕ
name_text Timings i =
    item (ascii "lanes,service mode,vehicles per green,minimum green,maximum green,yellow,minimum red,startup warning,startup green,startup yellow,startup red,shutdown red,maximum pre-metering green,minimum pre-metering green,mainline lanes,priority lane,bypass timeout")
    i
name_text Entries i = item (ascii "days,start minute,mode,rate,level table") (column_of Entries i)
name_text Holidays i = item (ascii "kind,month,day or week,weekday,Sunday move") (column_of Holidays i)
name_text Levels i = item (ascii "table,flow,occupancy,speed,rate") (column_of Levels i)

-- Number i, by its row, counted from 1, and its name: `plan entry 2, start minute`.
unfoldable pub number_text : Section → ℕ → List ℕ
number_text k i = row_text k ++ (blank_and_decimal (row_of k i + 1) ++ (ascii ", " ++ name_text k i))
