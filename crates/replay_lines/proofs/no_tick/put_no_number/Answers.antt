-- The two parts.
use Rattle.text.proofs.PutsLaws.{puts_then}
use Rattle.replay_lines.specs.NoTick.{no_number_text}
use Rattle.replay_lines.proofs.no_tick.put_no_number.Goals as goal

pub returns : goal.returns
unfolding no_number_text
returns c =
    puts_then c.put_word.ensures
    c.put.ensures
