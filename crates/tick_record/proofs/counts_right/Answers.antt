-- Each count is the definition's.
use Rattle.tick_record.specs.Record.{record_size, metered_count, mainline_count, calls_count, commands_count, counts_right}
use native.Mathlib.Omega.{arith}
use Rattle.tick_record.proofs.counts_right.Goals as goal

pub word_at-clock-requires : goal.word_at-clock-requires
unfolding record_size metered_count mainline_count calls_count commands_count
word_at-clock-requires c = omega (arith, c.requires)

pub word_at-metered-requires : goal.word_at-metered-requires
unfolding record_size metered_count mainline_count calls_count commands_count
word_at-metered-requires c = omega (arith, c.requires)

pub word_at-mainline-requires : goal.word_at-mainline-requires
unfolding record_size metered_count mainline_count calls_count commands_count
word_at-mainline-requires c = omega (arith, c.requires, c.mainline_count.ensures)

pub word_at-calls-requires : goal.word_at-calls-requires
unfolding record_size metered_count mainline_count calls_count commands_count
word_at-calls-requires c = omega (arith, c.requires, c.calls_count.ensures)

pub word_at-commands-requires : goal.word_at-commands-requires
unfolding record_size metered_count mainline_count calls_count commands_count
word_at-commands-requires c = omega (arith, c.requires, c.commands_count.ensures)

pub returns : goal.returns
unfolding counts_right metered_count
returns c = simp (c.word_at-commands.ensures, c.commands_count.ensures, c.word_at-calls.ensures, c.calls_count.ensures, c.word_at-mainline.ensures, c.mainline_count.ensures, c.word_at-metered.ensures, c.word_at-clock.ensures)
