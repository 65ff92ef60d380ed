-- No line adds more to the output than the longest answer: no number of the machine has more than 20 digits, no poll record more than 60
-- bytes, no line of readings more than 163.
use Prim.Native.Nat.{ℕ, ◌+◌, ◌*◌, ◌^◌, ◌≤◌, ◌<◌}
use mathlib.Core.Path.{◌≡◌, refl, sym}
use mathlib.Core.Bool.{Bool, true, false}
use mathlib.Core.List.{List, [], ◌∷◌}
use native.Mathlib.Omega.{arith}
use borrow.Author.Tests.{leb-true}
use Rattle.std.specs.Prelude.{Option, Some, None}
use Rattle.std.specs.Option.{is_some}
use Rattle.std.proofs.lemmas.Option.{none-some}
use Rattle.refusals.specs.declared.Refusal.{Refusal}
use lib.Dec.{eqb, leb}
use lib.ListN.{length, length-append}
use mir.Val.{Val}
use denote.Laws.{Is}
use Rattle.text.specs.Ascii.{ascii}
use Rattle.text.specs.Put.{Put}
use Rattle.text.proofs.DecimalLaws.{decimal_word}
use Rattle.site.specs.declared.Site.{Site}
use Rattle.site.specs.Named.{metered_lanes, mainline_lanes}
use Rattle.site.proofs.TimingLaws.{timings_good}
use Rattle.loops.proofs.Cases.{by_test}
use Rattle.state.specs.declared.State.{State}
use Rattle.tick.specs.declared.Ticked.{Ticked}
use Rattle.tick_line.specs.Scan.{most_of}
use Rattle.tick_line.specs.declared.reading.Verdict.{Verdict}
use Rattle.tick_line.specs.declared.reading.Verdict.TheVariants.{Tick, Count, NoNumber, Above, Empty}
use Rattle.tick_line.specs.contracts.reading.Verdict as a-verdict
use Rattle.poll.specs.Poll.{poll_of, refusal_of}
use Rattle.poll.proofs.PollLaws.{site_sound}
use Rattle.readings.specs.Readings.{readings_by, read_of, refused_readings}
use Rattle.readings_text.specs.Line.{longest_speeds}
use Rattle.readings_text.proofs.LengthLaws.{speeds_most}
use Rattle.tick_text.specs.Lines.{tick_line, longest_tick, hex_text, poll_line}
use Rattle.replay_lines.specs.NoTick.{word_text, no_number_text, above_text, empty_text, count_text, reason_text, no_tick_line}
use Rattle.replay_lines.specs.Answer.{completes, polled_text, speeds_text, answer_text}
use Rattle.replay_lines.specs.Replay.{longest_answer}
use Rattle.replay_lines.proofs.PollLaws.{absent, poll_most}

-- Why a line is no tick. The numbers of a verdict that the machine holds are numbers of the machine.
word_most : (word : ℕ) → word < 2 ^ 64 → length (word_text word) ≤ 25
unfolding word_text
word_most word h = let a = decimal_word word h in simp length-append (omega arith)

most_word : (word : ℕ) (b : Bool) → eqb word 4 ≡ b → most_of word < 2 ^ 64
unfolding most_of
most_word word true e = rw e (omega arith)
most_word word false e = rw e (omega arith)

reason_most : (v : Verdict) (vs : List Val) → Is (a-verdict.the_field).row ((a-verdict.the_field).into v) vs → length (reason_text v) ≤ 57
unfolding count_text no_number_text above_text empty_text
reason_most Tick vs g = omega arith
reason_most (Count words wanted) vs g =
    let f = g.1.1.1.1 in
    let a = decimal_word words (omega (arith, f.0.1)) in
    let b = decimal_word wanted (omega (arith, f.1.0.1)) in
    simp length-append (omega arith)
reason_most (NoNumber word) vs g = let a = word_most word (omega (arith, g.1.1.1.1.0.1)) in simp length-append (omega arith)
reason_most (Above word) vs g =
    let a = word_most word (omega (arith, g.1.1.1.1.0.1)) in
    let b = decimal_word (most_of word) (most_word word _ refl) in
    simp length-append (omega arith)
reason_most (Empty word) vs g = let a = word_most word (omega (arith, g.1.1.1.1.0.1)) in simp length-append (omega arith)

pub no_tick_most : (k : ℕ) (v : Verdict) (vs : List Val) → k < 2 ^ 64 → Is (a-verdict.the_field).row ((a-verdict.the_field).into v) vs
    → length (no_tick_line k v) ≤ longest_answer
unfolding no_tick_line
no_tick_most k v vs h g = let a = decimal_word k h in let b = reason_most v vs g in simp length-append (omega arith)

-- A tick's answer.
hex_length : (bytes : List ℕ) → length (hex_text bytes) ≡ length bytes * 2
hex_length [] = refl
hex_length (b ∷ bytes) = omega (arith, hex_length bytes)

poll_line_length : (bytes : List ℕ) → length (poll_line bytes) ≡ 6 + length bytes * 2
unfolding poll_line
poll_line_length bytes = omega (arith, length-append (hex_text bytes) (ascii "\n"), hex_length bytes)

polled_case : (x : Site) (s : State) (b : Bool) → is_some (refusal_of x s) ≡ b → length (polled_text x s) ≤ 126
unfolding polled_text
polled_case x s true e = rw e (omega (arith, poll_line_length []))
polled_case x s false e = rw e (omega (arith, poll_line_length (poll_of x s), poll_most x s (absent (refusal_of x s) e)))

-- Readings that are not refused are those of a site of six mainline lanes at most.
read_sound : (x : Site) (s : State) (r : Option Refusal) → refusal_of x s ≡ r → (readings_by r s.periods).refusal ≡ None → refusal_of x s ≡ None
unfolding readings_by refused_readings
read_sound x s None e n = e
read_sound x s (Some r) e n = absurd (none-some r (sym n))

speeds_case : (x : Site) (s : State) → length (speeds_text x s) ≤ longest_speeds
unfolding speeds_text read_of
speeds_case x s =
    by_test (is_some (read_of x s).refusal)
    (λ e. rw e (omega arith))
    (λ e. rw e (speeds_most (read_of x s) (mainline_lanes x) (timings_good x (site_sound x s (read_sound x s _ refl (absent (read_of x s).refusal e)))).mainline_most))

answer_case : (x : Site) (number : ℕ) (t : Ticked) (b : Bool) → completes t ≡ b → length (tick_line number (metered_lanes x) t) ≤ longest_tick
    → length (answer_text x number t) ≤ longest_answer
unfolding answer_text
answer_case x number t true e h = let a = polled_case x t.state _ refl in let b = speeds_case x t.state in rw e (simp length-append (omega arith))
answer_case x number t false e h = rw e (simp length-append (omega arith))

pub answer_most : (x : Site) (number : ℕ) (t : Ticked) → length (tick_line number (metered_lanes x) t) ≤ longest_tick → length (answer_text x number t) ≤ longest_answer
answer_most x number t h = answer_case x number t _ refl h

-- Where there is room, the answer fits.
pub fits_in : {d d' text : List ℕ} {p r : ℕ} (size : ℕ) → Put d p text r d' → length text ≤ longest_answer → leb (p + longest_answer) size ≡ true → r ≤ size
fits_in {p = p} size f h e = omega (arith, f.next, leb-true (p + longest_answer) size e)
