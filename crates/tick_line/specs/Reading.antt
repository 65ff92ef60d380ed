-- The tick of a line, or why it is none.
use Rattle.std.specs.Prelude.{ℕ, ◌-◌, Bool, true, false, cond, List, eqb, replicate}
use Rattle.tick_row.specs.Row.{longest_row, row_size, input_of}
use Rattle.tick_line.specs.declared.scan.Scan.{Scan}
use Rattle.tick_line.specs.declared.scan.Stage.{Stage}
use Rattle.tick_line.specs.declared.scan.Stage.TheVariants.{Between, Number, Blanks, NoNumber, Above, Empty}
use Rattle.tick_line.specs.declared.reading.Verdict.{Verdict}
use Rattle.tick_line.specs.declared.reading.Verdict.TheVariants.{Tick, Count, NoNumber as WordNoNumber, Above as WordAbove, Empty as WordEmpty}
use Rattle.tick_line.specs.declared.reading.ReadLine.{ReadLine}
use Rattle.tick_line.specs.Scan.{one_more}

-- A line is a tick's row with the tenth as one number, at a site of n metered and m mainline lanes.
unfoldable pub words_wanted : ℕ → ℕ → ℕ
words_wanted n m = row_size n m - 1

-- `18 numbers, 20 wanted`.
unfoldable pub counted : ℕ → ℕ → Verdict
counted words wanted = cond (eqb words wanted) Tick (Count words wanted)

-- A word that is no tick's is the one behind the numbers so far; else the numbers are counted.
abbrev pub verdict_of : Stage → ℕ → ℕ → Verdict
verdict_of Between words wanted = counted words wanted
verdict_of Number words wanted = counted words wanted
verdict_of Blanks words wanted = counted words wanted
verdict_of NoNumber words wanted = WordNoNumber (one_more words)
verdict_of Above words wanted = WordAbove (one_more words)
verdict_of Empty words wanted = WordEmpty (one_more words)

abbrev pub is_tick : Verdict → Bool
is_tick Tick = true
is_tick (Count words wanted) = false
is_tick (WordNoNumber word) = false
is_tick (WordAbove word) = false
is_tick (WordEmpty word) = false

-- The verdict of a line and its tick, that of this row; a line that is no tick gives zeros.
unfoldable pub read_as : Verdict → List ℕ → ℕ → ℕ → ReadLine
read_as verdict row n m =
    record { verdict = verdict; input = cond (is_tick verdict) (input_of row n m) (input_of (replicate longest_row 0) 0 0) }

-- What is read of a line's words.
unfoldable pub tick_read : Scan → ℕ → ℕ → ReadLine
tick_read s n m = read_as (verdict_of s.stage s.words (words_wanted n m)) s.row n m
