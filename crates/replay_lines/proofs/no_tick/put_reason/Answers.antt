-- Each case puts the words that the definition gives it.
use Rattle.replay_lines.proofs.no_tick.put_reason.Goals as goal

pub returns-in-Tick : goal.returns-in-Tick
returns-in-Tick c = rw c.in-Tick.is c.put.ensures

pub returns-in-Count : goal.returns-in-Count
returns-in-Count c = rw c.in-Count.is c.put_count.ensures

pub returns-in-NoNumber : goal.returns-in-NoNumber
returns-in-NoNumber c = rw c.in-NoNumber.is c.put_no_number.ensures

pub returns-in-Above : goal.returns-in-Above
returns-in-Above c = rw c.in-Above.is c.put_above.ensures

pub returns-in-Empty : goal.returns-in-Empty
returns-in-Empty c = rw c.in-Empty.is c.put_empty.ensures
