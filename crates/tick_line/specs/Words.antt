-- What a line is, by its words: what is read of a whole line, with no steps from byte to byte (law `line_by_words`).
use Rattle.std.specs.Prelude.{ℕ, ◌+◌, ◌/◌, ◌%◌, cond, not, List, [], ◌∷◌, ◌++◌, ltb, eqb, take, replicate}
use Rattle.word_value.specs.Digits.{is_empty, digits_alone, value_of}
use Rattle.tick_row.specs.Row.{longest_row}
use Rattle.tick_line.specs.declared.reading.Verdict.{Verdict}
use Rattle.tick_line.specs.declared.reading.Verdict.TheVariants.{NoNumber, Above, Empty}
use Rattle.tick_line.specs.declared.reading.ReadLine.{ReadLine}
use Rattle.tick_line.specs.Scan.{most_of}
use Rattle.tick_line.specs.Reading.{words_wanted, counted, read_as}

-- One carriage return, 13, directly before the line's end belongs to that.
abbrev pub without_return : List ℕ → List ℕ
without_return [] = []
without_return (b ∷ []) = cond (eqb b 13) [] (b ∷ [])
without_return (b ∷ c ∷ line) = b ∷ without_return (c ∷ line)

-- A byte more in front of the first word.
abbrev pub on_first : ℕ → List (List ℕ) → List (List ℕ)
on_first b [] = (b ∷ []) ∷ []
on_first b (word ∷ words) = (b ∷ word) ∷ words

-- What stands between blanks, 32: `1 2 ` has three words, and the last is empty.
abbrev pub words_of : List ℕ → List (List ℕ)
words_of [] = [] ∷ []
words_of (b ∷ text) = cond (eqb b 32) ([] ∷ words_of text) (on_first b (words_of text))

-- A word and those behind it; an empty word only where others follow.
abbrev pub unless_last : List ℕ → List (List ℕ) → List (List ℕ)
unless_last [] [] = []
unless_last [] (next ∷ words) = [] ∷ next ∷ words
unless_last (b ∷ word) words = (b ∷ word) ∷ words

-- Blanks at the end are taken: the empty words there are left out.
abbrev pub without_last_empty : List (List ℕ) → List (List ℕ)
without_last_empty [] = []
without_last_empty (word ∷ words) = unless_last word (without_last_empty words)

-- The words of a line.
unfoldable pub line_words : List ℕ → List (List ℕ)
line_words line = without_last_empty (words_of (without_return line))

-- Of these words, behind so many others, the leftmost that is empty, no number or above its most decides, and is named by its number from 1.
-- Where there is none, the words are counted.
abbrev pub verdict_from : ℕ → List (List ℕ) → ℕ → Verdict
verdict_from before [] wanted = counted before wanted
verdict_from before (word ∷ words) wanted =
    cond (is_empty word)
    (Empty (before + 1))
    (cond (not (digits_alone word))
    (NoNumber (before + 1))
    (cond (ltb (most_of (before + 1)) (value_of word))
    (Above (before + 1))
    (verdict_from (before + 1) words wanted)))

-- Whether a line is a tick where so many words are wanted, and if not, why.
unfoldable pub line_verdict : List ℕ → ℕ → Verdict
line_verdict line wanted = verdict_from 0 (line_words line) wanted

-- A word's value in a tick's row: the tenth, word 4, as its high and low halves.
unfoldable pub in_row : ℕ → ℕ → List ℕ
in_row word value = cond (eqb word 4) ((value / 65536) ∷ (value % 65536) ∷ []) (value ∷ [])

-- The values of these words, behind so many others.
abbrev pub numbers_from : ℕ → List (List ℕ) → List ℕ
numbers_from before [] = []
numbers_from before (word ∷ words) = in_row (before + 1) (value_of word) ++ numbers_from (before + 1) words

-- A line's row: its words' values in order, and zeros behind them up to the longest row.
unfoldable pub line_row : List ℕ → List ℕ
line_row line = take longest_row (numbers_from 0 (line_words line) ++ replicate longest_row 0)

-- What is read of a line at a site of n metered and m mainline lanes.
unfoldable pub line_read : List ℕ → ℕ → ℕ → ReadLine
line_read line n m = read_as (line_verdict line (words_wanted n m)) (line_row line) n m
