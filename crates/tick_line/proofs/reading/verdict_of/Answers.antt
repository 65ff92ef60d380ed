-- Each stage gives the verdict that the definition gives it.
use Rattle.tick_line.proofs.reading.verdict_of.Goals as goal

pub returns-in-NoNumber : goal.returns-in-NoNumber
returns-in-NoNumber c = rw (c.in-NoNumber.is, c.one_more-word.ensures)

pub returns-in-Above : goal.returns-in-Above
returns-in-Above c = rw (c.in-Above.is, c.one_more-word.ensures)

pub returns-in-Empty : goal.returns-in-Empty
returns-in-Empty c = rw (c.in-Empty.is, c.one_more-word.ensures)

pub returns-in-Between : goal.returns-in-Between
returns-in-Between c = rw c.in-Between.is c.counted.ensures

pub returns-in-Number : goal.returns-in-Number
returns-in-Number c = rw c.in-Number.is c.counted-in-Number.ensures

pub returns-in-Blanks : goal.returns-in-Blanks
returns-in-Blanks c = rw c.in-Blanks.is c.counted-in-Blanks.ensures
