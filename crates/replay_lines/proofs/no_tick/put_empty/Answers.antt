-- The two parts.
use Rattle.text.proofs.PutsLaws.{puts_then}
use Rattle.replay_lines.specs.NoTick.{empty_text}
use Rattle.replay_lines.proofs.no_tick.put_empty.Goals as goal

pub returns : goal.returns
unfolding empty_text
returns c =
    puts_then c.put_word.ensures
    c.put.ensures
