-- The three parts.
use Rattle.text.proofs.PutsLaws.{puts_then}
use Rattle.replay_lines.specs.NoTick.{above_text}
use Rattle.replay_lines.proofs.no_tick.put_above.Goals as goal

pub returns : goal.returns
unfolding above_text
returns c =
    puts_then c.put_word.ensures
    (puts_then c.put.ensures
    (rw (← c.most_of.ensures) c.put_decimal.ensures))
