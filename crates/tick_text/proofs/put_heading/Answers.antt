-- The bytes are the definition's.
use Rattle.tick_text.specs.Lines.{heading_line}
use Rattle.tick_text.proofs.put_heading.Goals as goal

pub returns : goal.returns
unfolding heading_line
returns c = c.put.ensures
