-- The plan's answer at the clock's date and minute.
use Rattle.wanted.specs.Decision.{day_of, entry_in_force}
use Rattle.wanted.proofs.day_and_entry.Goals as goal

pub returns : goal.returns
unfolding day_of entry_in_force
returns c = (record { day = c.day_and_entry.ensures.day; entry = c.day_and_entry.ensures.entry })
