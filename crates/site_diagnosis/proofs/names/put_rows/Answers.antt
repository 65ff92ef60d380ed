-- Each case puts the words that the definition gives it.
use Rattle.site_diagnosis.proofs.names.put_rows.Goals as goal

pub returns-in-Timings : goal.returns-in-Timings
returns-in-Timings c = rw c.in-Timings.is c.put.ensures

pub returns-in-Entries : goal.returns-in-Entries
returns-in-Entries c = rw c.in-Entries.is c.put-in-Entries.ensures

pub returns-in-Holidays : goal.returns-in-Holidays
returns-in-Holidays c = rw c.in-Holidays.is c.put-in-Holidays.ensures

pub returns-in-Levels : goal.returns-in-Levels
returns-in-Levels c = rw c.in-Levels.is c.put-in-Levels.ensures
