-- The letter of each lane.
use Rattle.tick_text.proofs.lamps.put_word.Goals as goal

pub returns : goal.returns
returns c =
    rw (← c.letter_of.ensures, ← c.letter_of-2.ensures, ← c.letter_of-3.ensures, ← c.letter_of-4.ensures) c.put_first.ensures
