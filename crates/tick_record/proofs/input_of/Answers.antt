-- Each part is the definition's.
use Rattle.tick_record.specs.Record.{record_size, metered_count, mainline_count, calls_count, commands_count, input_in, record_input}
use Rattle.numbers.specs.Words.{words}
use borrow.Author.Rules.{rules}
use native.Mathlib.Omega.{arith}
use Rattle.tick_record.proofs.input_of.Goals as goal

pub clock_of-requires : goal.clock_of-requires
unfolding record_size metered_count mainline_count calls_count commands_count
clock_of-requires c = (record { place = omega (arith, c.requires, c.well_formed); reads = λ i h. omega (arith, c.requires, c.well_formed, h) })

pub metered_of-requires : goal.metered_of-requires
unfolding record_size metered_count mainline_count calls_count commands_count
metered_of-requires c = (record { place = omega (arith, c.requires, c.well_formed); reads = λ i h. omega (arith, c.requires, c.well_formed, h) })

pub overflow_add-main : goal.overflow_add-main
unfolding record_size metered_count mainline_count calls_count commands_count
overflow_add-main c =
    omega (arith, c.requires, c.well_formed, c.mainline_count-main.ensures)

pub mainline_of-requires : goal.mainline_of-requires
unfolding record_size metered_count mainline_count calls_count commands_count
mainline_of-requires c = (record { place = omega (arith, c.requires, c.well_formed, c.mainline_count-main.ensures); reads = λ i h. omega (arith, c.requires, c.well_formed, c.mainline_count-main.ensures, h) })

pub overflow_add-calls : goal.overflow_add-calls
unfolding record_size metered_count mainline_count calls_count commands_count
overflow_add-calls c =
    omega (arith, c.requires, c.well_formed, c.calls_count-calls.ensures)

pub calls_of-requires : goal.calls_of-requires
unfolding record_size metered_count mainline_count calls_count commands_count
calls_of-requires c = (record { place = omega (arith, c.requires, c.well_formed, c.calls_count-calls.ensures); reads = λ i h. omega (arith, c.requires, c.well_formed, c.calls_count-calls.ensures, h) })

pub overflow_add-commands : goal.overflow_add-commands
unfolding record_size metered_count mainline_count calls_count commands_count
overflow_add-commands c =
    omega (arith, c.requires, c.well_formed, c.commands_count-commands.ensures)

pub command_of-requires : goal.command_of-requires
unfolding record_size metered_count mainline_count calls_count commands_count
command_of-requires c = (record { place = omega (arith, c.requires, c.well_formed, c.commands_count-commands.ensures); reads = λ i h. omega (arith, c.requires, c.well_formed, c.commands_count-commands.ensures, h) })

pub overflow_add-commands-2 : goal.overflow_add-commands-2
unfolding record_size metered_count mainline_count calls_count commands_count
overflow_add-commands-2 c =
    omega (arith, c.requires, c.well_formed, c.commands_count-commands.ensures)

pub overflow_add-commands-3 : goal.overflow_add-commands-3
unfolding record_size metered_count mainline_count calls_count commands_count
overflow_add-commands-3 c =
    omega (arith, c.requires, c.well_formed, c.commands_count-commands.ensures)

pub command_of-requires-2 : goal.command_of-requires-2
unfolding record_size metered_count mainline_count calls_count commands_count
command_of-requires-2 c = (record { place = omega (arith, c.requires, c.well_formed, c.commands_count-commands.ensures); reads = λ i h. omega (arith, c.requires, c.well_formed, c.commands_count-commands.ensures, h) })

pub returns : goal.returns
unfolding record_input input_in metered_count
returns c =
    let w = words c.args.bytes.now in
    simp (
      c.command_of-2.ensures w (λ i x e. search rules),
      c.command_of.ensures w (λ i x e. search rules),
      c.calls_of.ensures w (λ i x e. search rules),
      c.mainline_of.ensures w (λ i x e. search rules),
      c.metered_of.ensures w (λ i x e. search rules),
      c.clock_of.ensures w (λ i x e. search rules),
      c.commands_count-commands.ensures,
      c.calls_count-calls.ensures,
      c.mainline_count-main.ensures,
    )
