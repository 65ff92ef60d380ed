-- The code's tests are the definition's.
use Rattle.bypass.specs.Bypass.{timer_of}
use Rattle.bypass.proofs.timer.Goals as goal

pub returns-then-b : goal.returns-then-b
unfolding timer_of
returns-then-b c = rw (c.if-kept.true, c.if-b.true) c.later.ensures

pub returns-then-kept : goal.returns-then-kept
unfolding timer_of
returns-then-kept c = rw (c.if-kept.true, c.if-b.false)

pub returns : goal.returns
unfolding timer_of
returns c = rw c.if-kept.false
