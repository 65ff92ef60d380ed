-- The code's test is the definition's.
use Rattle.tick_line.specs.Reading.{read_as, tick_read}
use Rattle.tick_line.proofs.reading.tick_read.Goals as goal

pub returns-then-is_tick : goal.returns-then-is_tick
unfolding tick_read read_as
returns-then-is_tick c = rw (← c.words_wanted.ensures, ← c.verdict_of-verdict.ensures, ← c.is_tick.ensures, c.if-is_tick.true, c.input_of.ensures)

pub returns : goal.returns
unfolding tick_read read_as
returns c = rw (← c.words_wanted.ensures, ← c.verdict_of-verdict.ensures, ← c.is_tick.ensures, c.if-is_tick.false, c.input_of-2.ensures)
