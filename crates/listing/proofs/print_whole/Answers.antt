-- A buffer of that length is not refused, so that the whole text is written.
use Rattle.listing.specs.Timetable.{text_of}
use Rattle.output.proofs.OutputLaws.{had_room, accepted}
use mathlib.Core.Path.{◌≡◌, sym, ◌∙◌}
use Prim.Native.Nat.{ℕ}
use Rattle.std.specs.Prelude.{Result, Ok}
use Rattle.refusals.specs.declared.Refusal.{Refusal}
use borrow.Author.Rules.{rules}
use Rattle.listing.proofs.print_whole.Goals as goal

abbrev written : ℕ → Result ℕ Refusal
written n = Ok n

same : {a b : ℕ} → written a ≡ written b → a ≡ b
same e = cc

pub returns : goal.returns
returns c =
    let p = c.print.ensures in
    let u = c.unwrap.ensures in
    let text = text_of c.args.file.now in
    let o = accepted text c.args.out.now (had_room text c.args.out.now (rw p.answer at (p.room (search rules)))) in (record { count = same (sym u ∙ p.answer ∙ sym o.answers); buffer = p.buffer ∙ sym o.leaves })
