-- The words of a line, byte by byte. Words stand between blanks, one blank between two; a line's numbers are its words.
use Rattle.std.specs.Prelude.{ℕ, ◌+◌, ◌-◌, ◌/◌, ◌%◌, ◌^◌, min, Bool, true, false, cond, List, [], ◌∷◌, ltb, leb, eqb, set, replicate}
use Rattle.word_value.specs.Digits.{grown}
use Rattle.tick_row.specs.Row.{longest_row}
use Rattle.tick_line.specs.declared.scan.Scan.{Scan}
use Rattle.tick_line.specs.declared.scan.Stage.{Stage}
use Rattle.tick_line.specs.declared.scan.Stage.TheVariants.{Between, Number, Blanks, NoNumber, Above, Empty}

-- One more, up to the largest number of the machine, at which a count stays.
unfoldable pub one_more : ℕ → ℕ
one_more count = min (count + 1) (2 ^ 64 - 1)

-- Before the first byte of a line.
unfoldable pub line_start : Scan
line_start = record { stage = Between; returned = false; value = 0; words = 0; row = replicate longest_row 0 }

-- The same numbers, at another stage.
unfoldable pub in_stage : Scan → Stage → Scan
in_stage s stage = record { stage = stage; returned = false; value = s.value; words = s.words; row = s.row }

abbrev pub in_number : Stage → Bool
in_number Between = false
in_number Number = true
in_number Blanks = false
in_number NoNumber = false
in_number Above = false
in_number Empty = false

-- A digit begins a number or goes on with it. Behind a second blank it shows that a word is empty. A word that is no tick's decides, and
-- what follows it does not matter.
abbrev pub after_digit : Stage → Stage
after_digit Between = Number
after_digit Number = Number
after_digit Blanks = Empty
after_digit NoNumber = NoNumber
after_digit Above = Above
after_digit Empty = Empty

-- A blank that ends no number is one more than stands between two words.
abbrev pub after_blank : Stage → Stage
after_blank Between = Blanks
after_blank Number = Number
after_blank Blanks = Blanks
after_blank NoNumber = NoNumber
after_blank Above = Above
after_blank Empty = Empty

-- Any other byte makes its word no number; behind a second blank it shows that a word is empty.
abbrev pub after_other : Stage → Stage
after_other Between = NoNumber
after_other Number = NoNumber
after_other Blanks = Empty
after_other NoNumber = NoNumber
after_other Above = Above
after_other Empty = Empty

-- Each number of a line is 0 to 65535, the tenth, word 4, 0 to 4294967295.
unfoldable pub most_of : ℕ → ℕ
most_of word = cond (eqb word 4) 4294967295 65535

-- The place in a tick's row of the number behind so many others: the tenth has two places there.
unfoldable pub place_of : ℕ → ℕ
place_of words = cond (ltb words 3) words (one_more words)

-- The row with that number; the tenth as its high and low halves. No row has a place for numbers beyond the longest.
unfoldable pub with_number : List ℕ → ℕ → ℕ → List ℕ
with_number row words value =
    cond (eqb words 3) (set (set row 3 (value / 65536 % 65536)) 4 (value % 65536)) (set row (place_of words) (value % 65536))

unfoldable pub with_digit : Scan → ℕ → Scan
with_digit s digit = record { stage = after_digit s.stage; returned = false; value = grown s.value digit; words = s.words; row = s.row }

-- The end of a number.
unfoldable pub ended : Scan → Scan
ended s =
    cond (leb s.value (most_of (one_more s.words)))
    (record { stage = Between; returned = false; value = 0; words = one_more s.words; row = with_number s.row s.words s.value })
    (in_stage s Above)

unfoldable pub with_blank : Scan → Scan
with_blank s = cond (in_number s.stage) (ended s) (in_stage s (after_blank s.stage))

-- A carriage return waits for the next byte: it belongs to the line's end, if that follows.
unfoldable pub with_return : Scan → Scan
with_return s = record { stage = s.stage; returned = true; value = s.value; words = s.words; row = s.row }

unfoldable pub with_other : Scan → Scan
with_other s = in_stage s (after_other s.stage)

-- A blank, 32; a carriage return, 13; a digit, 48 to 57.
unfoldable pub with_byte : Scan → ℕ → Scan
with_byte s b =
    cond (eqb b 32)
    (with_blank s)
    (cond (eqb b 13)
    (with_return s)
    (cond (ltb b 48)
    (with_other s)
    (cond (leb b 57)
    (with_digit s (b - 48))
    (with_other s))))

-- A byte behind a carriage return shows that this stood within the line, in a word.
unfoldable pub after_byte : Scan → ℕ → Scan
after_byte s b = cond s.returned (with_other s) (with_byte s b)

abbrev pub scanned : List ℕ → Scan → Scan
scanned [] s = s
scanned (b ∷ bytes) s = scanned bytes (after_byte s b)

-- The end of the line is that of its last number.
unfoldable pub closed : Scan → Scan
closed s = cond (in_number s.stage) (ended s) s
