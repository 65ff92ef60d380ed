-- The buffer is as long as the sheet, and so the sheet is all of it.
use Rattle.yellow_sheet.proofs.SheetLaws.{sheet_length}
use Rattle.text.proofs.PutsLaws.{puts_whole}
use mathlib.Core.Path.{◌≡◌, sym, ◌∙◌}
use native.Mathlib.Omega.{arith}
use borrow.Author.Rules.{rules}
use lib.ListN.{length}
use Rattle.yellow_sheet.proofs.sheet.fill_sheet.Goals as goal

pub returns : goal.returns
returns c =
    let a = c.args in
    let l : length a.out.now ≡ 4395 = search rules in
    search rules ∙ puts_whole (omega (arith, l)) c.new.ensures.bytes c.new.ensures.end (l ∙ sym sheet_length) c.put_sheet.ensures
