-- One text behind the other.
use Rattle.text.proofs.PutsLaws.{puts_then}
use Rattle.listing.specs.Timetable.{line_of}
use Rattle.listing.proofs.line.put_line.Goals as goal

pub returns : goal.returns
unfolding line_of
returns c =
    puts_then c.put_day_name.ensures
    (puts_then c.put_byte.ensures
    (puts_then c.put_timed.ensures
    (puts_then c.put_blank_and_decimal.ensures c.put_byte-2.ensures)))
