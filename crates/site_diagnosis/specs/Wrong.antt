-- What is wrong with a section. Its count is number q of the file's numbers ws.
use Rattle.std.specs.Prelude.{ℕ, ◌+◌, ◌-◌, cond, List, [], ◌++◌, ltb, length, get_or}
use Rattle.text.specs.Ascii.{ascii}
use Rattle.text.specs.Decimal.{decimal}
use Rattle.phrases.specs.Wrong.{allowed_text, not_allowed_text}
use Rattle.refusals.specs.declared.Refusal.{Refusal}
use Rattle.refusals.specs.declared.Refusal.TheVariants.{ShortFile, WrongCount}
use Rattle.numbers.specs.declared.Range.{Range}
use Rattle.ranges.specs.declared.Section.{Section}
use Rattle.ranges.specs.Ranges.{unused}
use Rattle.ranges.specs.Sections.{counts_of, range_of, may_be_unused, first_bad}
use Rattle.site.specs.Reading.{numbers_of}
use Rattle.site_diagnosis.specs.Names.{rows_text, number_text}

-- The first number that is not whole there: `plan entry 2, start minute is missing`, or `the count of plan entries is missing`.
unfoldable pub missing_text : Section → List ℕ → ℕ → List ℕ
missing_text k ws q =
    cond (ltb q (length ws))
    (number_text k (length ws - (q + 1)) ++ ascii " is missing")
    (ascii "the count of " ++ (rows_text k ++ ascii " is missing"))

-- `17 plan entries, allowed 0-16`.
unfoldable pub count_text : Section → ℕ → List ℕ
count_text k n = decimal n ++ (ascii " " ++ (rows_text k ++ allowed_text (counts_of k).low (counts_of k).high))

-- In a level's flow, occupancy and speed ` or 65535` follows.
unfoldable pub unused_text : Section → ℕ → List ℕ
unused_text k i = cond (may_be_unused k i) (ascii " or " ++ decimal unused) []

-- Number i of a section's numbers v with the range that it is not in: `level 2, flow 0, allowed 1-3000 or 65535`.
unfoldable pub out_of_range_text : Section → List ℕ → ℕ → List ℕ
out_of_range_text k v i =
    let g : Range = range_of k v i in
    number_text k i ++ (not_allowed_text (get_or v i 0) g.low g.high ++ unused_text k i)

-- The first number that is not allowed.
unfoldable pub bad_number_text : Section → List ℕ → List ℕ
bad_number_text k v = out_of_range_text k v (first_bad k v 0 (length v))

-- What is wrong, by the refusal: 1, 2, else 3 to 6.
unfoldable pub wrong_text : Section → List ℕ → ℕ → Refusal → List ℕ
wrong_text k ws q ShortFile = missing_text k ws q
wrong_text k ws q WrongCount = count_text k (get_or ws q 0)
wrong_text k ws q refusal = bad_number_text k (numbers_of k ws q)
