-- Each case puts the word that the definition gives it.
use Rattle.tick_text.proofs.decided.put_bypass.Goals as goal

pub returns-in-None : goal.returns-in-None
returns-in-None c = rw c.in-None.is c.put.ensures

pub returns-in-Waits : goal.returns-in-Waits
returns-in-Waits c = rw c.in-Waits.is c.put-in-Waits.ensures

pub returns-in-Runs : goal.returns-in-Runs
returns-in-Runs c = rw c.in-Runs.is c.put-in-Runs.ensures
