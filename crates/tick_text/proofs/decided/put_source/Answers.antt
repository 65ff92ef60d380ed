-- Each case puts the word that the definition gives it.
use Rattle.tick_text.proofs.decided.put_source.Goals as goal

pub returns-in-Manual : goal.returns-in-Manual
returns-in-Manual c = rw c.in-Manual.is c.put.ensures

pub returns-in-Centre : goal.returns-in-Centre
returns-in-Centre c = rw c.in-Centre.is c.put-in-Centre.ensures

pub returns-in-Plan : goal.returns-in-Plan
returns-in-Plan c = rw c.in-Plan.is c.put-in-Plan.ensures
