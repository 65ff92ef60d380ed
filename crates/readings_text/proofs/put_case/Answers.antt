-- Each case puts the letter that the definition gives it.
use Rattle.readings_text.proofs.put_case.Goals as goal

pub returns-in-Absent : goal.returns-in-Absent
returns-in-Absent c = rw c.in-Absent.is c.put.ensures

pub returns-in-Measured : goal.returns-in-Measured
returns-in-Measured c = rw c.in-Measured.is c.put-in-Measured.ensures

pub returns-in-Carried : goal.returns-in-Carried
returns-in-Carried c = rw c.in-Carried.is c.put-in-Carried.ensures
