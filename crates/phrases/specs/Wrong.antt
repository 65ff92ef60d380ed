-- What is said of a number that is not allowed, and what is wrong in the trade's words.
use Rattle.std.specs.Prelude.{ℕ, cond, List, ◌++◌, eqb}
use Rattle.text.specs.Ascii.{ascii}
use Rattle.text.specs.Decimal.{decimal}
use Rattle.text.specs.Items.{item}
use Rattle.phrases.specs.Phrases.{blank_and_decimal}

-- Document 01, 'Refusals': the trade words of refusals 1 to 14. Document 02 has none for 15 to 17; theirs are ours. Item 0, of no refusal,
-- is empty; there is none for 18.
unfoldable pub trade_word : ℕ → List ℕ
trade_word refusal =
    item (ascii ",short file,wrong count,bad timing,bad entry,bad holiday,bad level,long file,bad clock,bad sample,bad command,small buffer,no period,spoilt state,spoilt site,bad record,bad approach,too many entries")
    refusal

-- How a line begins that says what is wrong: `bad entry: `.
unfoldable pub opening_text : ℕ → List ℕ
opening_text refusal = trade_word refusal ++ ascii ": "

-- `LOW-HIGH`; where both are the same number, that number alone.
unfoldable pub range_text : ℕ → ℕ → List ℕ
range_text low high = cond (eqb low high) (decimal low) (decimal low ++ (ascii "-" ++ decimal high))

-- `, allowed 0-16`.
unfoldable pub allowed_text : ℕ → ℕ → List ℕ
allowed_text low high = ascii ", allowed " ++ range_text low high

-- A number, behind its name, that is not in its range: ` 1440, allowed 0-1439`.
unfoldable pub not_allowed_text : ℕ → ℕ → ℕ → List ℕ
not_allowed_text x low high = blank_and_decimal x ++ allowed_text low high
