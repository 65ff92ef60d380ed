-- The four parts.
use Rattle.text.proofs.PutsLaws.{puts_then}
use Rattle.replay_lines.specs.NoTick.{count_text}
use Rattle.replay_lines.proofs.no_tick.put_count.Goals as goal

pub returns : goal.returns
unfolding count_text
returns c =
    puts_then c.put_decimal.ensures
    (puts_then c.put.ensures
    (puts_then c.put_decimal-2.ensures
    c.put-2.ensures))
