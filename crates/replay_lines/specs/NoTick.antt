-- The line that ends a replay: why a line is no tick.
use Rattle.std.specs.Prelude.{ℕ, List, [], ◌++◌}
use Rattle.text.specs.Ascii.{ascii}
use Rattle.text.specs.Decimal.{decimal}
use Rattle.tick_line.specs.Scan.{most_of}
use Rattle.tick_line.specs.declared.reading.Verdict.{Verdict}
use Rattle.tick_line.specs.declared.reading.Verdict.TheVariants.{Tick, Count, NoNumber, Above, Empty}

unfoldable pub word_text : ℕ → List ℕ
word_text word = ascii "word " ++ decimal word

unfoldable pub no_number_text : ℕ → List ℕ
no_number_text word = word_text word ++ ascii " is no number"

unfoldable pub above_text : ℕ → List ℕ
above_text word = word_text word ++ (ascii " is above " ++ decimal (most_of word))

unfoldable pub empty_text : ℕ → List ℕ
empty_text word = word_text word ++ ascii " is empty"

unfoldable pub count_text : ℕ → ℕ → List ℕ
count_text words wanted = decimal words ++ (ascii " numbers, " ++ (decimal wanted ++ ascii " wanted"))

abbrev pub reason_text : Verdict → List ℕ
reason_text Tick = []
reason_text (Count words wanted) = count_text words wanted
reason_text (NoNumber word) = no_number_text word
reason_text (Above word) = above_text word
reason_text (Empty word) = empty_text word

-- The end of a run at its k-th line.
unfoldable pub no_tick_line : ℕ → Verdict → List ℕ
no_tick_line k verdict = ascii "line " ++ (decimal k ++ (ascii " is no tick: " ++ (reason_text verdict ++ ascii "\n")))
