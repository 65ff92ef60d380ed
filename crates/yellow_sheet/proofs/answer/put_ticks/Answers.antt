-- The ticks, and the same in seconds.
use Rattle.text.proofs.PutsLaws.{puts_then}
use Rattle.yellow_sheet.specs.Answer.{ticks_text}
use Rattle.yellow_sheet.proofs.answer.put_ticks.Goals as goal

pub returns : goal.returns
unfolding ticks_text
returns c =
    puts_then c.put_decimal.ensures (puts_then c.put.ensures c.put_blank_and_seconds.ensures)
