-- The text is counted, then put where it fits.
use Rattle.listing.specs.Timetable.{printed_of, text_of, longest_text}
use Rattle.listing.proofs.Longest.{printed_most}
use Rattle.text.proofs.PutsLaws.{puts_measured, puts_front}
use Rattle.text.specs.Put.{farthest}
use Rattle.output.proofs.OutputLaws.{too_small, accepted}
use Rattle.std.proofs.lemmas.Result.{IfOk-weaker}
use lib.ListN.{length}
use Prim.Native.Nat.{◌≤◌, ◌<◌, min}
use mathlib.Core.Path.{◌≡◌, refl, ap, ◌∙◌}
use native.Mathlib.Omega.{arith}
use borrow.Author.Rules.{rules}
use Rattle.listing.proofs.print.Goals as goal
use Rattle.listing.proofs.print.Goals.{After-read-read, After-put_printed}

-- What was measured is the text of the file.
is-text : (c : After-read-read) → printed_of c.read-read.result ≡ text_of c.args.file.now
is-text c = ap printed_of c.read-read.ensures.is

counted : (c : After-put_printed) → c.put_printed.new.out.end ≡ min (length (text_of c.args.file.now)) farthest
counted c =
    puts_measured (search rules) c.new-measured.ensures.end (rw (ap printed_of c.read-read.ensures.is) at c.put_printed.ensures)

short : (c : After-read-read) → length (printed_of c.read-read.result) ≤ longest_text
short c = printed_most c.read-read.result (search rules) (IfOk-weaker c.read-read.result _ _ (λ x h. h.0) c.read-read.ensures.rewritten)

pub returns-then-out-measured : goal.returns-then-out-measured
returns-then-out-measured c =
    let n = counted (goal.at.returns-then-out-measured c).After-put_printed in
    let read = (goal.at.returns-then-out-measured c).After-read-read in
    let o = too_small (text_of c.args.file.now) c.args.out.now (omega (arith, n, c.if-out-measured.true)) in (record {
      answer = o.answers;
      buffer = o.leaves;
      room = λ h. absurd (omega (arith, n, c.if-out-measured.true, h, short read, ap length (is-text read)));
    })

pub returns : goal.returns
returns c =
    let n = counted (goal.at.returns c).After-put_printed in
    let s : length c.args.out.now < farthest = search rules in
    let h : length (text_of c.args.file.now) ≤ length c.args.out.now = omega (arith, n, s, c.if-out-measured.false) in
    let f = puts_front s c.new-text.ensures.bytes c.new-text.ensures.end h (rw (is-text (goal.at.returns c).After-read-read) at c.put_printed-2.ensures) in
    let o = accepted (text_of c.args.file.now) c.args.out.now h in (record { answer = rw f.0 o.answers; buffer = search rules ∙ f.1 ∙ o.leaves; room = λ h. refl })
