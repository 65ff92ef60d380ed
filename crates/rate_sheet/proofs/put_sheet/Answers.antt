-- The heading, then the lines of all rates.
use Rattle.rate_sheet.specs.Sheet.{sheet_text}
use Rattle.text.proofs.PutsLaws.{puts_then}
use Rattle.rate_sheet.proofs.put_sheet.Goals as goal

pub returns : goal.returns
unfolding sheet_text
returns c =
    puts_then c.put.ensures c.put_rates.ensures
