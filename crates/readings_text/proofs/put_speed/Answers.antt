-- The whole km/h, a point, and the tenth.
use Rattle.text.proofs.PutsLaws.{puts_then}
use Rattle.readings_text.specs.Line.{speed_text}
use Rattle.readings_text.proofs.put_speed.Goals as goal

pub returns : goal.returns
unfolding speed_text
returns c =
    rw (← c.tenths-tenths.ensures.is)
    (puts_then c.put_blank_and_decimal.ensures
    (puts_then c.put_byte.ensures
    c.put_decimal.ensures))
