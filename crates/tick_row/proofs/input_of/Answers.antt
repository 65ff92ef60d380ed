-- Each part is the definition's.
use Rattle.tick_row.specs.Row.{mainline_at, calls_at, commands_at, input_of}
use borrow.Author.Rules.{rules}
use native.Mathlib.Omega.{arith}
use Rattle.tick_row.proofs.input_of.Goals as goal

pub mainline_of-requires : goal.mainline_of-requires
unfolding mainline_at
mainline_of-requires c = omega (arith, c.mainline_at-main.ensures)

pub calls_of-requires : goal.calls_of-requires
unfolding mainline_at calls_at
calls_of-requires c = omega (arith, c.calls_at-calls.ensures)

pub command_of-requires : goal.command_of-requires
unfolding mainline_at calls_at commands_at
command_of-requires c = omega (arith, c.commands_at-commands.ensures)

pub overflow_add-commands : goal.overflow_add-commands
unfolding mainline_at calls_at commands_at
overflow_add-commands c =
    omega (arith, c.commands_at-commands.ensures, c.well_formed)

pub command_of-requires-2 : goal.command_of-requires-2
unfolding mainline_at calls_at commands_at
command_of-requires-2 c =
    omega (arith, c.commands_at-commands.ensures, c.well_formed)

pub returns : goal.returns
unfolding input_of
returns c =
    let row = c.args.row.now in
    simp (
      c.command_of-2.ensures row (λ i x e. search rules),
      c.command_of.ensures row (λ i x e. search rules),
      c.calls_of.ensures row (λ i x e. search rules),
      c.mainline_of.ensures row (λ i x e. search rules),
      c.metered_of.ensures row (λ i x e. search rules),
      c.clock_of.ensures row (λ i x e. search rules),
      c.commands_at-commands.ensures,
      c.calls_at-calls.ensures,
      c.mainline_at-main.ensures,
    )
