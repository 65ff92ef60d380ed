-- Each case puts the item of the list that the definition gives it.
use Rattle.site_diagnosis.proofs.names.put_name.Goals as goal

pub returns-in-Timings : goal.returns-in-Timings
returns-in-Timings c = rw c.in-Timings.is c.put_item.ensures

pub returns-in-Entries : goal.returns-in-Entries
returns-in-Entries c = rw c.in-Entries.is c.put_item-in-Entries.ensures

pub returns-in-Holidays : goal.returns-in-Holidays
returns-in-Holidays c = rw c.in-Holidays.is c.put_item-in-Holidays.ensures

pub returns-in-Levels : goal.returns-in-Levels
returns-in-Levels c = rw c.in-Levels.is c.put_item-in-Levels.ensures
