-- Manual first, then communications.
use Rattle.inputs.specs.Commands.{commands_bad}
use Rattle.inputs.proofs.commands_bad.Goals as goal

pub returns-then-command_bad : goal.returns-then-command_bad
unfolding commands_bad
returns-then-command_bad c = rw (← c.command_bad.ensures, c.if-command_bad.true)

pub returns : goal.returns
unfolding commands_bad
returns c = rw (← c.command_bad.ensures, c.if-command_bad.false) c.command_bad-2.ensures
