-- A replay: ticks as lines of text, each with its answer.
use Rattle.std.specs.Prelude.{ℕ, Bool, true, false, cond, List, [], ◌∷◌, ◌++◌, eqb, Option, Some, None}
use Rattle.refusals.specs.declared.Refusal.{Refusal}
use Rattle.site.specs.declared.Site.{Site}
use Rattle.site.specs.Named.{metered_lanes, mainline_lanes}
use Rattle.tick.specs.Tick.{power_up_of, tick_of}
use Rattle.tick_line.specs.declared.scan.Scan.{Scan}
use Rattle.tick_line.specs.declared.reading.ReadLine.{ReadLine}
use Rattle.tick_line.specs.Scan.{one_more, line_start, closed, after_byte as scanAfter}
use Rattle.tick_line.specs.Reading.{is_tick, tick_read}
use Rattle.tick_text.specs.Lines.{heading_line}
use Rattle.replay_lines.specs.declared.run.Refused.{Refused}
use Rattle.replay_lines.specs.declared.run.Run.{Run}
use Rattle.replay_lines.specs.declared.run.Line.{Line}
use Rattle.replay_lines.specs.NoTick.{no_tick_line}
use Rattle.replay_lines.specs.Answer.{answer_text}

-- Power-up, before the first byte.
unfoldable pub start_of : Site → Run
start_of x = record { state = (power_up_of x).state; lines = 0; begun = false; scan = line_start; ended = false; refused = None }

-- The present line, which ends here: its number from 1, what is read of it, and what the tick gives in the state that the ticks before left.
unfoldable pub line_of : Site → Run → Line
line_of x run =
    let read : ReadLine = tick_read (closed run.scan) (metered_lanes x) (mainline_lanes x) in
    record { number = one_more run.lines; verdict = read.verdict; input = read.input; ticked = tick_of x run.state read.input }

-- A line adds the tick's answer, or why it is no tick.
unfoldable pub line_text : Site → Line → List ℕ
line_text x line = cond (is_tick line.verdict) (answer_text x line.number line.ticked) (no_tick_line line.number line.verdict)

-- A line's tick, if it was refused.
abbrev pub refused_for : Option Refusal → Line → Option Refused
refused_for None line = None
refused_for (Some refusal) line = Some (record { line = line.number; refusal = refusal; input = line.input })

-- The first refused tick is kept.
abbrev pub noted : Option Refused → Line → Option Refused
noted (Some refused) line = Some refused
noted None line = refused_for line.ticked.refusal line

-- The state is handed on, the line is counted; a line that is no tick ends the run.
unfoldable pub after_line : Run → Line → Run
after_line run line =
    cond (is_tick line.verdict)
    (record { state = line.ticked.state; lines = line.number; begun = false; scan = line_start; ended = false; refused = noted run.refused line })
    (record { state = run.state; lines = line.number; begun = false; scan = line_start; ended = true; refused = run.refused })

-- The same run, with other bytes of the present line.
unfoldable pub with_scan : Run → Scan → Bool → Run
with_scan run scan begun =
    record { state = run.state; lines = run.lines; begun = begun; scan = scan; ended = run.ended; refused = run.refused }

-- A newline, 10, ends a line; every other byte belongs to one. Behind a line that is no tick nothing is read.
unfoldable pub after_byte : Site → Run → ℕ → Run
after_byte x run b = cond run.ended run (cond (eqb b 10) (after_line run (line_of x run)) (with_scan run (scanAfter run.scan b) true))

unfoldable pub added_by : Site → Run → ℕ → List ℕ
added_by x run b = cond run.ended [] (cond (eqb b 10) (line_text x (line_of x run)) [])

-- The run behind a part of the input's bytes, and what they add to the output.
abbrev pub run_after : Site → List ℕ → Run → Run
run_after x [] run = run
run_after x (b ∷ bytes) run = run_after x bytes (after_byte x run b)

abbrev pub output_of : Site → List ℕ → Run → List ℕ
output_of x [] run = []
output_of x (b ∷ bytes) run = added_by x run b ++ output_of x bytes (after_byte x run b)

-- At the input's end a last line may lack its newline.
unfoldable pub last_text : Site → Run → List ℕ
last_text x run = cond run.ended [] (cond run.begun (line_text x (line_of x run)) [])

unfoldable pub last_run : Site → Run → Run
last_run x run = cond run.ended run (cond run.begun (after_line run (line_of x run)) run)

-- All that a replay writes of a whole input.
unfoldable pub replay_text : Site → List ℕ → List ℕ
replay_text x input = heading_line ++ (output_of x input (start_of x) ++ last_text x (run_after x input (start_of x)))

-- No line adds more bytes.
abbrev pub longest_answer : ℕ
longest_answer = 544
