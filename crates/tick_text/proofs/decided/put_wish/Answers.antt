-- Each case puts the word that the definition gives it.
use Rattle.tick_text.proofs.decided.put_wish.Goals as goal

pub returns-in-Dark : goal.returns-in-Dark
returns-in-Dark c = rw c.in-Dark.is c.put.ensures

pub returns-in-Green : goal.returns-in-Green
returns-in-Green c = rw c.in-Green.is c.put-in-Green.ensures

pub returns-in-Metering : goal.returns-in-Metering
returns-in-Metering c = rw c.in-Metering.is c.put-in-Metering.ensures

pub returns-in-Clear : goal.returns-in-Clear
returns-in-Clear c = rw c.in-Clear.is c.put-in-Clear.ensures
