-- What a replay writes, byte by byte, is what the lines of its input say. A run stands within a line: the bytes of that line so far, in front
-- of the input left, are its lines; by induction on the input left.
use Prim.Native.Nat.{ℕ, ◌+◌, ◌^◌, ◌<◌}
use mathlib.Core.Path.{◌≡◌, refl, ap, sym, ◌∙◌}
use mathlib.Core.Bool.{Bool, true, false, not}
use mathlib.Core.List.{List, [], ◌∷◌, ◌++◌, append-nil, append_assoc}
use native.Mathlib.Omega.{arith}
use lib.Dec.{eqb}
use lib.ListN.{length}
use Rattle.site.specs.declared.Site.{Site}
use Rattle.site.specs.Named.{metered_lanes, mainline_lanes}
use Rattle.tick.specs.Tick.{tick_of}
use Rattle.tick_line.specs.declared.scan.Scan.{Scan}
use Rattle.tick_line.specs.declared.reading.ReadLine.{ReadLine}
use Rattle.tick_line.specs.Scan.{one_more, line_start, scanned, after_byte as scanAfter}
use Rattle.tick_line.specs.Reading.{is_tick}
use Rattle.word_value.specs.Digits.{is_empty}
use Rattle.tick_line.specs.Words.{on_first, line_read}
use Rattle.tick_line.proofs.WordLaws.{line_by_words}
use Rattle.tick_text.specs.Lines.{heading_line}
use Rattle.replay_lines.specs.declared.run.Run.{Run}
use Rattle.replay_lines.specs.declared.run.Line.{Line}
use Rattle.replay_lines.specs.Replay.{start_of, line_of, line_text, after_line, with_scan, run_after, output_of, last_text, replay_text}
use Rattle.replay_lines.specs.Answer.{answer_text}
use Rattle.replay_lines.specs.Lines.{lines_of, answers_to, ByLines}
use Rattle.replay_lines.proofs.ReplayLaws.{going_on, adding, run_stays, output_ends, last_ended, last_between, last_begun}

-- The bytes of a line so far, in front of the lines of the input left.
abbrev in_front : List ℕ → List (List ℕ) → List (List ℕ)
in_front [] lines = lines
in_front (b ∷ part) lines = on_first b (in_front part lines)

front_ends : (part : List ℕ) (lines : List (List ℕ)) → in_front part ([] ∷ lines) ≡ part ∷ lines
front_ends [] lines = refl
front_ends (b ∷ part) lines = ap (on_first b) (front_ends part lines)

front_last : (b : ℕ) (part : List ℕ) → in_front (b ∷ part) [] ≡ (b ∷ part) ∷ []
front_last b [] = refl
front_last b (c ∷ part) = ap (on_first b) (front_last c part)

front_more : (part : List ℕ) (b : ℕ) (lines : List (List ℕ)) → in_front part (on_first b lines) ≡ in_front (part ++ (b ∷ [])) lines
front_more [] b lines = refl
front_more (c ∷ part) b lines = ap (on_first c) (front_more part b lines)

scanned_more : (part : List ℕ) (b : ℕ) (s : Scan) → scanned (part ++ (b ∷ [])) s ≡ scanAfter (scanned part s) b
scanned_more [] b s = refl
scanned_more (c ∷ part) b s = scanned_more part b (scanAfter s c)

begun_more : (part : List ℕ) (b : ℕ) → not (is_empty (part ++ (b ∷ []))) ≡ true
begun_more [] b = refl
begun_more (c ∷ part) b = refl

length_more : (part : List ℕ) (b : ℕ) → length (part ++ (b ∷ [])) ≡ length part + 1
length_more [] b = refl
length_more (c ∷ part) b = omega (arith, length_more part b)

-- A run that has read these bytes of its present line.
abbrev within : Run → List ℕ → Run
within run part = with_scan run (scanned part line_start) (not (is_empty part))

within_more : (run : Run) (part : List ℕ) (b : ℕ) → with_scan (within run part) (scanAfter (within run part).scan b) true ≡ within run (part ++ (b ∷ []))
unfolding with_scan
within_more run part b = rw (scanned_more part b line_start, begun_more part b)

within_goes : (run : Run) (part : List ℕ) → run.ended ≡ false → (within run part).ended ≡ false
unfolding with_scan
within_goes run part e = e

module _ (x : Site) where
  -- What the input left adds, with its last line.
  abbrev added : List ℕ → Run → List ℕ
  added rest run = output_of x rest run ++ last_text x (run_after x rest run)

  added_ended : (rest : List ℕ) (run : Run) → run.ended ≡ true → added rest run ≡ []
  added_ended rest run e = rw (output_ends x rest run e, run_stays x rest run e, (last_ended x run e).0)

  -- A line, by its words.
  abbrev read_of : List ℕ → ReadLine
  read_of line = line_read line (metered_lanes x) (mainline_lanes x)

  abbrev by_words : Run → List ℕ → Line
  by_words run line =
      record { number = one_more run.lines; verdict = (read_of line).verdict; input = (read_of line).input; ticked = tick_of x run.state (read_of line).input }

  line_is : (run : Run) (line : List ℕ) → length line < 2 ^ 64 → line_of x (within run line) ≡ by_words run line
  unfolding line_of with_scan
  line_is run line l = rw (line_by_words (metered_lanes x) (mainline_lanes x) line l)

  abbrev answers : Run → List (List ℕ) → List ℕ
  answers run lines = answers_to x run.state run.lines lines

  -- A line and what follows it, if what follows a tick is known; and the last line.
  module _ (run : Run) (line : List ℕ) where
    abbrev next : Run
    next = after_line (within run line) (by_words run line)

    line_case : (rest : List ℕ) (t : Bool) → is_tick (read_of line).verdict ≡ t
        → (next.ended ≡ false → added rest (within next []) ≡ answers next (lines_of rest))
        → line_text x (by_words run line) ++ added rest next ≡ answers run (line ∷ lines_of rest)
    unfolding line_text after_line with_scan
    line_case rest true e h = rw e (ap (λ (r : List ℕ). answer_text x (one_more run.lines) (by_words run line).ticked ++ r) (rw e at h refl))
    line_case rest false e h = rw (added_ended rest next (rw e), e) (append-nil _)

    last_case : (t : Bool) → is_tick (read_of line).verdict ≡ t → line_text x (by_words run line) ≡ answers run (line ∷ [])
    unfolding line_text
    last_case true e = rw e (sym (append-nil _))
    last_case false e = rw e

  -- The input's end.
  at_end : (part : List ℕ) (run : Run) → run.ended ≡ false → length part < 2 ^ 64 → last_text x (within run part) ≡ answers run (in_front part [])
  unfolding with_scan
  at_end [] run e l = (last_between x (within run []) e refl).0
  at_end (b ∷ part) run e l =
      (last_begun x (within run (b ∷ part)) e refl).0
      ∙ ap (line_text x) (line_is run (b ∷ part) l)
      ∙ last_case run (b ∷ part) _ refl
      ∙ ap (answers run) (sym (front_last b part))

  -- What is claimed of an input left: it adds the answers to its lines, the first begun by the line's bytes so far.
  abbrev Claim : List ℕ → Type 0
  Claim rest = (part : List ℕ) (run : Run) → run.ended ≡ false → length part + length rest < 2 ^ 64 → added rest (within run part) ≡ answers run (in_front part (lines_of rest))

  -- One more byte, a newline or one of the line.
  module _ (b : ℕ) (rest part : List ℕ) (run : Run) (e : run.ended ≡ false) (l : length part + length (b ∷ rest) < 2 ^ 64) where
    by_byte : (t : Bool) → eqb b 10 ≡ t → Claim rest → added (b ∷ rest) (within run part) ≡ answers run (in_front part (lines_of (b ∷ rest)))
    by_byte true n h =
        rw (going_on x (within run part) b (within_goes run part e), adding x (within run part) b (within_goes run part e), n)
        (rw (line_is run part (omega arith), append_assoc, front_ends part (lines_of rest)) (line_case run part rest _ refl (λ f. h [] _ f (omega arith))))
    by_byte false n h =
        rw (going_on x (within run part) b (within_goes run part e), adding x (within run part) b (within_goes run part e), n)
        (rw (within_more run part b, front_more part b (lines_of rest)) (h (part ++ (b ∷ [])) run e (omega (arith, length_more part b))))

  claim : (rest : List ℕ) → Claim rest
  claim [] part run e l = at_end part run e (omega arith)
  claim (b ∷ rest) part run e l = by_byte b rest part run e l _ refl (claim rest)

-- Before the first byte no line has begun.
pub by_lines : (x : Site) → ByLines x
unfolding ByLines replay_text start_of with_scan
by_lines x input l = ap (λ (r : List ℕ). heading_line ++ r) (claim x input [] (start_of x) refl (omega arith))
