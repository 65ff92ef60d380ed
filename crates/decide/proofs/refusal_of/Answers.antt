-- What the checks find is what the definition asks.
use Rattle.decide.specs.Decide.{refusal_of}
use Rattle.decide.proofs.refusal_of.Goals as goal

pub returns : goal.returns
unfolding refusal_of
returns c =
    rw (← c.spoilt.ensures, ← c.shape_of.ensures, ← c.spoilt-2.ensures, ← c.clock_bad.ensures, ← c.commands_bad.ensures) c.first_refusal.ensures
