-- What is wrong with a site file, in one line: `bad entry: plan entry 2, start minute 1440, allowed 0-1439 (site.bin, byte 50)`.
use Rattle.std.specs.Prelude.{ℕ, ◌*◌, ◌≡◌, cond, List, [], ◌++◌, eqb, length, Result, Ok, Err, IsOk, IfErr}
use Rattle.text.specs.Ascii.{ascii}
use Rattle.text.specs.Decimal.{decimal}
use Rattle.refusals.specs.Numbers.{number_of}
use Rattle.phrases.specs.Wrong.{opening_text}
use Rattle.numbers.specs.Words.{words}
use Rattle.ranges.specs.declared.Section.{Section}
use Rattle.ranges.specs.declared.Section.TheVariants.{Timings, Entries, Holidays, Levels}
use Rattle.refusals.specs.declared.Refusal.TheVariants.{LongFile}
use Rattle.site.specs.declared.Misread.{Misread}
use Rattle.site.specs.declared.Found.{Found}
use Rattle.site.specs.Reading.{section_of, read_of}
use Rattle.site_diagnosis.specs.Wrong.{wrong_text}

-- Where: ` (NAME, byte P)`.
unfoldable pub place_text : List ℕ → ℕ → List ℕ
place_text name place = ascii " (" ++ (name ++ (ascii ", byte " ++ (decimal place ++ ascii ")\n")))

-- The line of a section that was found to be refused, its count being number q of the file's numbers ws.
unfoldable pub section_line : List ℕ → Section → List ℕ → ℕ → Misread → List ℕ
section_line name k ws q m = opening_text (number_of m.refusal) ++ (wrong_text k ws q m.refusal ++ place_text name m.place)

-- The line of a file with bytes behind its levels.
unfoldable pub long_line : List ℕ → ℕ → List ℕ
long_line name place = opening_text (number_of LongFile) ++ (ascii "nothing may follow the levels" ++ place_text name place)

-- The line of a refused section; else what follows.
abbrev pub line_or : Result Found Misread → (Misread → List ℕ) → (Found → List ℕ) → List ℕ
line_or (Ok a) line rest = rest a
line_or (Err m) line rest = line m

-- As `read_of` goes: section by section, then 7, at the extra byte. There is no text where the file is accepted.
unfoldable pub diagnosis_line : List ℕ → List ℕ → List ℕ
diagnosis_line name s =
    let ws : List ℕ = words s in
    line_or (section_of Timings (length s) ws 0) (section_line name Timings ws 0)
    (λ t.
    line_or (section_of Entries (length s) ws t.next) (section_line name Entries ws t.next)
    (λ e.
    line_or (section_of Holidays (length s) ws e.next) (section_line name Holidays ws e.next)
    (λ h.
    line_or (section_of Levels (length s) ws h.next) (section_line name Levels ws h.next)
    (λ l. cond (eqb (l.next * 2) (length s)) [] (long_line name (l.next * 2))))))

-- What a line says of a file, whatever is wrong: nothing where reading accepts the file; else it begins with the trade word of the refusal
-- that reading gives, and ends with its place.
pub record Diagnosed (name s line : List ℕ) : Type 0 where
  pub silent : IsOk (read_of s) → line ≡ []
  pub says : IfErr (read_of s) (λ m. (wrong : List ℕ) × (line ≡ opening_text (number_of m.refusal) ++ (wrong ++ place_text name m.place)))
