-- Each part of the decision is the definition's, from the parts before it.
use Rattle.wanted.specs.Decision.{command_in_force, decision_of}
use Rattle.wanted.proofs.wanted_now.Goals as goal

pub returns : goal.returns
unfolding decision_of command_in_force
returns c =
    rw (c.chosen-choice.ensures, c.shape_of-shape.ensures, c.ruling-command.ensures, c.planned-planned.ensures, c.source_of-source.ensures, c.day_and_entry-today.ensures.entry, c.day_and_entry-today.ensures.day)
