-- What the scan of a line gives is what its words give. After each byte the scan stands between words, within a number, behind blanks or
-- behind a word that decides; of each of these it is said what is read when the rest of the line follows, by induction on that rest.
use Prim.Native.Nat.{ℕ, ◌+◌, ◌*◌, ◌-◌, ◌^◌, ◌≤◌, ◌<◌}
use mathlib.Core.Path.{◌≡◌, refl, ap, sym, ◌∙◌}
use mathlib.Core.Bool.{Bool, true, false, cond}
use mathlib.Core.List.{List, [], ◌∷◌}
use native.Mathlib.Omega.{arith}
use borrow.Author.Tests.{ltb-true, ltb-false, le-leb, lt-leb}
use lib.Dec.{ltb, eqb}
use lib.ListN.{length, replicate}
use lib.Seq.{sets}
use Rattle.tick_row.specs.Row.{longest_row}
use Rattle.tick_line.specs.declared.scan.Scan.{Scan}
use Rattle.tick_line.specs.declared.scan.Stage.{Stage}
use Rattle.tick_line.specs.declared.scan.Stage.TheVariants.{Between, Number, Blanks, NoNumber, Above, Empty}
use Rattle.tick_line.specs.declared.reading.Verdict.TheVariants.{NoNumber as WordNoNumber, Above as WordAbove, Empty as WordEmpty}
use Rattle.tick_line.specs.declared.reading.ReadLine.{ReadLine}
use Rattle.word_value.specs.Digits.{is_digit, digits_alone, followed_by, value_of, kept, grown}
use Rattle.word_value.proofs.DigitLaws.{grown_kept}
use Rattle.tick_line.specs.Scan.{line_start, in_stage, in_number, after_digit, after_blank, after_other, most_of, with_number, with_digit, ended, with_blank, with_return, with_other, after_byte, scanned, closed}
use Rattle.tick_line.specs.Reading.{words_wanted, verdict_of, read_as, tick_read}
use Rattle.tick_line.specs.Words.{unless_last, line_words, verdict_from, line_verdict, numbers_from, line_row, line_read}
use Rattle.tick_line.proofs.ScanLaws.{behind_return}
use Rattle.tick_line.proofs.ByteLaws.{Kind, blank, return, digit, other, kind, first_in, others_in, words_blank, words_more, words_return}
use Rattle.tick_line.proofs.RowLaws.{one_more_lem, place_behind, row_step, over_zeros}

-- A scan whose last byte was no carriage return.
abbrev scan_at : Stage → ℕ → ℕ → List ℕ → Scan
scan_at stage value words row = record { stage = stage; returned = false; value = value; words = words; row = row }

most_fits : (word : ℕ) → most_of word < 4294967296
unfolding most_of
most_fits word = by_word (eqb word 4)
  where
    by_word : (t : Bool) → cond t 4294967295 65535 < 4294967296
    by_word true = omega arith
    by_word false = omega arith

module _ (n m : ℕ) where
  abbrev result : Scan → ReadLine
  result s = tick_read (closed s) n m

  -- What is read of these words behind so many others, which the row has.
  abbrev read_from : ℕ → List ℕ → List (List ℕ) → ReadLine
  read_from before row words = read_as (verdict_from before words (words_wanted n m)) (sets row (place_behind before) (numbers_from before words)) n m

  -- The same where the first word's digits so far have this value and its other bytes are these.
  abbrev read_number : ℕ → List ℕ → List (List ℕ) → ℕ → List ℕ → ReadLine
  read_number value word words before row =
      cond (digits_alone word)
      (cond (ltb (most_of (before + 1)) (followed_by value word))
      (read_as (WordAbove (before + 1)) row n m)
      (read_from (before + 1) (with_number row before (followed_by value word)) words))
      (read_as (WordNoNumber (before + 1)) row n m)

  -- What is read does not depend on the row where a word decides.
  empty_read : (word : ℕ) (row row' : List ℕ) → read_as (WordEmpty word) row n m ≡ read_as (WordEmpty word) row' n m
  unfolding read_as
  empty_read word row row' = refl

  no_number_read : (word : ℕ) (row row' : List ℕ) → read_as (WordNoNumber word) row n m ≡ read_as (WordNoNumber word) row' n m
  unfolding read_as
  no_number_read word row row' = refl

  above_read : (word : ℕ) (row row' : List ℕ) → read_as (WordAbove word) row n m ≡ read_as (WordAbove word) row' n m
  unfolding read_as
  above_read word row row' = refl

  -- Behind a word that decides, no byte changes the stage.
  abbrev Settled : Stage → Type 0
  Settled stage = (in_number stage ≡ false) × (after_blank stage ≡ stage) × (after_digit stage ≡ stage) × (after_other stage ≡ stage)

  module _ (stage : Stage) (h : Settled stage) (words : ℕ) (row : List ℕ) where
    abbrev settled_at : Bool → ℕ → Scan
    settled_at returned value = record { stage = stage; returned = returned; value = value; words = words; row = row }

    stays : (value b : ℕ) → Kind b → (r : Bool) × (v : ℕ) × (after_byte (settled_at false value) b ≡ settled_at r v)
    unfolding with_blank with_return with_digit with_other in_stage
    stays value b (blank e f w) = (false, value, w _ refl ∙ rw (h.0, h.1))
    stays value b (return e f g w) = (_, value, w _ refl)
    stays value b (digit e f g w) = (false, grown value (b - 48), w _ refl ∙ rw h.2)
    stays value b (other e f g w) = (false, value, w _ refl ∙ rw h.3)

    settled : (rest : List ℕ) (returned : Bool) (value : ℕ)
        → result (scanned rest (settled_at returned value)) ≡ read_as (verdict_of stage words (words_wanted n m)) row n m
    unfolding closed tick_read with_other in_stage
    settled [] returned value = rw h.0
    settled (b ∷ rest) true value =
        ap (λ (s : Scan). result (scanned rest s)) (behind_return (settled_at true value) b refl ∙ rw h.3) ∙ settled rest false value
    settled (b ∷ rest) false value =
        let (r, v, e) = stays value b (kind b) in
        ap (λ (s : Scan). result (scanned rest s)) e ∙ settled rest r v

  -- Behind a word that is above its most, no number or empty.
  module _ (rest : List ℕ) (before : ℕ) (row : List ℕ) (l : before < 2 ^ 63) where
    above_next : (value : ℕ) → result (scanned rest (scan_at Above value before row)) ≡ read_as (WordAbove (before + 1)) row n m
    above_next value = settled Above (refl, refl, refl, refl) before row rest false value ∙ rw (one_more_lem before l)

    no_number_next : (value : ℕ) → result (scanned rest (scan_at NoNumber value before row)) ≡ read_as (WordNoNumber (before + 1)) row n m
    no_number_next value = settled NoNumber (refl, refl, refl, refl) before row rest false value ∙ rw (one_more_lem before l)

    empty_next : (value : ℕ) → result (scanned rest (scan_at Empty value before row)) ≡ read_as (WordEmpty (before + 1)) row n m
    empty_next value = settled Empty (refl, refl, refl, refl) before row rest false value ∙ rw (one_more_lem before l)

  -- A word that begins with a digit.
  module _ (b : ℕ) (word : List ℕ) (words : List (List ℕ)) (before : ℕ) (row : List ℕ) (g : is_digit b ≡ true) (l : before < 2 ^ 63) where
    abbrev value : ℕ
    value = followed_by (0 * 10 + (b - 48)) word

    begun_by : (t u : Bool) → digits_alone word ≡ t → ltb (most_of (before + 1)) value ≡ u
        → read_from before row ((b ∷ word) ∷ words) ≡ read_number (0 * 10 + (b - 48)) word words before row
    unfolding value_of
    begun_by false u d e = rw (g, d) (no_number_read _ _ _)
    begun_by true true d e = rw (g, d, e) (above_read _ _ _)
    begun_by true false d e = rw (g, d, e) (rw (row_step before l row (numbers_from (before + 1) words) value (ltb-false _ _ e)))

    begun : read_from before row ((b ∷ word) ∷ words) ≡ read_number (0 * 10 + (b - 48)) word words before row
    begun = begun_by _ _ refl refl

  -- The end of a number.
  module _ (value before : ℕ) (row : List ℕ) (l : before < 2 ^ 63) where
    abbrev within : Scan
    within = scan_at Number (kept value) before row

    ended_by : (u : Bool) → ltb (most_of (before + 1)) value ≡ u
        → ended within ≡ cond u (scan_at Above (kept value) before row) (scan_at Between 0 (before + 1) (with_number row before value))
    unfolding ended in_stage
    ended_by true e =
        let h : most_of (before + 1) < value = ltb-true _ _ e in
        rw (one_more_lem before l, lt-leb (kept value) (most_of (before + 1)) (omega (arith, most_fits (before + 1))))
    ended_by false e =
        let h : value ≤ most_of (before + 1) = ltb-false _ _ e in
        let k : kept value ≡ value = omega (arith, most_fits (before + 1)) in
        rw (one_more_lem before l, k, le-leb value (most_of (before + 1)) h)

    -- The rest then follows a number that is in the row, or a word above its most.
    module _ (rest : List ℕ) (k : (row' : List ℕ) → result (scanned rest (scan_at Between 0 (before + 1) row')) ≡ read_from (before + 1) row' (line_words rest)) where
      number_ended_by : (u : Bool) → ltb (most_of (before + 1)) value ≡ u
          → result (scanned rest (ended within)) ≡ read_number value [] (line_words rest) before row
      number_ended_by true e = rw (ended_by true e, e) (above_next rest before row l (kept value))
      number_ended_by false e = rw (ended_by false e, e) (k (with_number row before value))

      number_ended : result (scanned rest (ended within)) ≡ read_number value [] (line_words rest) before row
      number_ended = number_ended_by _ refl

    -- The line ends there.
    number_last_by : (u : Bool) → ltb (most_of (before + 1)) value ≡ u → result within ≡ read_number value [] [] before row
    unfolding closed tick_read
    number_last_by true e = rw (ended_by true e, e, one_more_lem before l)
    number_last_by false e = rw (ended_by false e, e)

    number_last : result within ≡ read_number value [] [] before row
    number_last = number_last_by _ refl

  onward : (rest : List ℕ) {s t : Scan} {r : ReadLine} → s ≡ t → result (scanned rest t) ≡ r → result (scanned rest s) ≡ r
  onward rest e h = ap (λ (s : Scan). result (scanned rest s)) e ∙ h

  -- A carriage return and then another byte.
  returned_within : (s : Scan) (b c : ℕ) → after_byte s b ≡ with_return s → after_byte (after_byte s b) c ≡ with_other (with_return s)
  unfolding with_return
  returned_within s b c w = ap (λ (t : Scan). after_byte t c) w ∙ behind_return (with_return s) c refl

  -- A second blank more.
  two_blanks : (before : ℕ) (row : List ℕ) (words : List (List ℕ)) → read_from before row (unless_last [] words) ≡ read_from before row (unless_last [] (unless_last [] words))
  two_blanks before row [] = refl
  two_blanks before row (word ∷ words) = empty_read _ _ _

  -- What is read at each of the three other stages, where this rest of the line follows. Behind so many words stand at least twice as many
  -- bytes, so their count is exact.
  record Claims (rest : List ℕ) : Type 0 where
    between : (before : ℕ) (row : List ℕ) → before * 2 + length rest < 2 ^ 64
        → result (scanned rest (scan_at Between 0 before row)) ≡ read_from before row (line_words rest)
    number : (value before : ℕ) (row : List ℕ) → before * 2 + 1 + length rest < 2 ^ 64
        → result (scanned rest (scan_at Number (kept value) before row)) ≡ read_number value (first_in rest) (others_in rest) before row
    blanks : (value before : ℕ) (row : List ℕ) → before * 2 + length rest < 2 ^ 64
        → result (scanned rest (scan_at Blanks value before row)) ≡ read_from before row (unless_last [] (line_words rest))

  claims_end : Claims []
  unfolding line_words closed tick_read
  claims_end = record {
    between = λ before row l. refl;
    number = λ value before row l. number_last value before row (omega arith);
    blanks = λ value before row l. refl;
  }

  -- One more byte, in front of a rest of which the claims hold.
  module _ (b : ℕ) where
    between_step : (rest : List ℕ) → Kind b → Claims rest → (before : ℕ) (row : List ℕ) → before * 2 + length (b ∷ rest) < 2 ^ 64
        → result (scanned (b ∷ rest) (scan_at Between 0 before row)) ≡ read_from before row (line_words (b ∷ rest))
    unfolding line_words with_blank with_return with_digit with_other in_stage closed tick_read grown
    between_step rest (blank e f w) c before row l =
        onward rest (w _ refl) (c.blanks 0 before row (omega arith)) ∙ rw (words_blank b rest e f)
    between_step [] (return e f g w) c before row l = ap result (w _ refl) ∙ rw f
    between_step (x ∷ rest) (return e f g w) c before row l =
        onward rest (returned_within _ b x (w _ refl)) (no_number_next rest before row (omega arith) 0)
        ∙ rw (words_return b x rest e, g) (no_number_read _ _ _)
    between_step rest (digit e f g w) c before row l =
        onward rest (w _ refl) (c.number (0 * 10 + (b - 48)) before row (omega arith))
        ∙ rw (words_more b rest e f) (sym (begun b (first_in rest) (others_in rest) before row g (omega arith)))
    between_step rest (other e f g w) c before row l =
        onward rest (w _ refl) (no_number_next rest before row (omega arith) 0)
        ∙ rw (words_more b rest e f, g) (no_number_read _ _ _)

    number_step : (rest : List ℕ) → Kind b → Claims rest → (value before : ℕ) (row : List ℕ) → before * 2 + 1 + length (b ∷ rest) < 2 ^ 64
        → result (scanned (b ∷ rest) (scan_at Number (kept value) before row)) ≡ read_number value (first_in (b ∷ rest)) (others_in (b ∷ rest)) before row
    unfolding line_words with_blank with_return with_digit with_other in_stage closed ended tick_read
    number_step rest (blank e f w) c value before row l =
        onward rest (w _ refl) (number_ended value before row (omega arith) rest (λ row'. c.between (before + 1) row' (omega arith)))
        ∙ rw (words_blank b rest e f)
    number_step [] (return e f g w) c value before row l =
        ap result (w _ refl) ∙ number_last value before row (omega arith) ∙ rw f
    number_step (x ∷ rest) (return e f g w) c value before row l =
        onward rest (returned_within _ b x (w _ refl)) (no_number_next rest before row (omega arith) (kept value))
        ∙ rw (words_return b x rest e, g)
    number_step rest (digit e f g w) c value before row l =
        onward rest (w _ refl ∙ rw (grown_kept value (b - 48))) (c.number (value * 10 + (b - 48)) before row (omega arith))
        ∙ rw (words_more b rest e f, g)
    number_step rest (other e f g w) c value before row l =
        onward rest (w _ refl) (no_number_next rest before row (omega arith) (kept value))
        ∙ rw (words_more b rest e f, g)

    blanks_step : (rest : List ℕ) → Kind b → Claims rest → (value before : ℕ) (row : List ℕ) → before * 2 + length (b ∷ rest) < 2 ^ 64
        → result (scanned (b ∷ rest) (scan_at Blanks value before row)) ≡ read_from before row (unless_last [] (line_words (b ∷ rest)))
    unfolding line_words with_blank with_return with_digit with_other in_stage closed tick_read
    blanks_step rest (blank e f w) c value before row l =
        onward rest (w _ refl) (c.blanks value before row (omega arith))
        ∙ rw (words_blank b rest e f) (two_blanks before row (line_words rest))
    blanks_step [] (return e f g w) c value before row l = ap result (w _ refl) ∙ rw f
    blanks_step (x ∷ rest) (return e f g w) c value before row l =
        onward rest (returned_within _ b x (w _ refl)) (empty_next rest before row (omega arith) value)
        ∙ rw (words_return b x rest e) (empty_read _ _ _)
    blanks_step rest (digit e f g w) c value before row l =
        onward rest (w _ refl) (empty_next rest before row (omega arith) (grown value (b - 48)))
        ∙ rw (words_more b rest e f) (empty_read _ _ _)
    blanks_step rest (other e f g w) c value before row l =
        onward rest (w _ refl) (empty_next rest before row (omega arith) value)
        ∙ rw (words_more b rest e f) (empty_read _ _ _)

  claims : (rest : List ℕ) → Claims rest
  claims [] = claims_end
  claims (b ∷ rest) =
      let c : Claims rest = claims rest in
      record { between = between_step b rest (kind b) c; number = number_step b rest (kind b) c; blanks = blanks_step b rest (kind b) c }

  -- What is read of a line, byte by byte, is what its words say.
  pub line_by_words : (line : List ℕ) → length line < 2 ^ 64 → tick_read (closed (scanned line line_start)) n m ≡ line_read line n m
  unfolding line_start line_read line_verdict line_row
  line_by_words line l = (claims line).between 0 (replicate longest_row 0) (omega arith) ∙ rw (over_zeros longest_row longest_row (omega arith) (numbers_from 0 (line_words line)))
