-- A replay, line by line: what it writes, with no steps from byte to byte (law `by_lines`).
use Rattle.std.specs.Prelude.{ℕ, ◌^◌, ◌<◌, ◌≡◌, cond, List, [], ◌∷◌, ◌++◌, eqb, length}
use Rattle.site.specs.declared.Site.{Site}
use Rattle.site.specs.Named.{metered_lanes, mainline_lanes}
use Rattle.state.specs.declared.State.{State}
use Rattle.tick.specs.declared.Ticked.{Ticked}
use Rattle.tick.specs.Tick.{power_up_of, tick_of}
use Rattle.tick_line.specs.declared.reading.ReadLine.{ReadLine}
use Rattle.tick_line.specs.Scan.{one_more}
use Rattle.tick_line.specs.Reading.{is_tick}
use Rattle.tick_line.specs.Words.{on_first, line_read}
use Rattle.tick_text.specs.Lines.{heading_line}
use Rattle.replay_lines.specs.NoTick.{no_tick_line}
use Rattle.replay_lines.specs.Answer.{answer_text}
use Rattle.replay_lines.specs.Replay.{replay_text}

-- What stands between newlines, 10, each line without its own. The last may lack it; behind the last newline there is no line.
abbrev pub lines_of : List ℕ → List (List ℕ)
lines_of [] = []
lines_of (b ∷ input) = cond (eqb b 10) ([] ∷ lines_of input) (on_first b (lines_of input))

-- The answers to these lines, in the state that the ticks before left, behind so many lines: each tick's, then those to the lines left in
-- the state that it gives. To a line that is no tick the answer is why, and nothing follows it.
abbrev pub answers_to : Site → State → ℕ → List (List ℕ) → List ℕ
answers_to x s before [] = []
answers_to x s before (line ∷ lines) =
    let read : ReadLine = line_read line (metered_lanes x) (mainline_lanes x) in
    let number : ℕ = one_more before in
    let t : Ticked = tick_of x s read.input in
    cond (is_tick read.verdict) (answer_text x number t ++ answers_to x t.state number lines) (no_tick_line number read.verdict)

-- A replay writes its heading and the answers to its input's lines, from power-up on.
unfoldable pub ByLines : Site → Type 0
ByLines x = (input : List ℕ) → length input < 2 ^ 64 → replay_text x input ≡ heading_line ++ answers_to x (power_up_of x).state 0 (lines_of input)
