-- The two parts.
use Rattle.text.proofs.PutsLaws.{puts_then}
use Rattle.replay_lines.specs.NoTick.{word_text}
use Rattle.replay_lines.proofs.no_tick.put_word.Goals as goal

pub returns : goal.returns
unfolding word_text
returns c =
    puts_then c.put.ensures
    c.put_decimal.ensures
