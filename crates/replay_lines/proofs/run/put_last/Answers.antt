-- The code's tests are the definition's.
use borrow.Author.Tests.{not-true, not-false}
use Rattle.replay_lines.proofs.ReplayLaws.{last_ended, last_between, last_begun}
use Rattle.text.proofs.PutsLaws.{puts_nothing}
use native.Mathlib.Omega.{arith}
use Rattle.replay_lines.proofs.run.put_last.Goals as goal

pub returns-then-run : goal.returns-then-run
returns-then-run c = let e = (last_ended c.args.site c.args.run c.if-run.true).0 in (record { is = rw e puts_nothing; short = rw e (omega arith) })

pub returns-then-not-run : goal.returns-then-not-run
returns-then-not-run c = let a = c.args in let e = (last_between a.site a.run c.if-run.false (not-true a.run.begun c.if-not-run.true)).0 in (record { is = rw e puts_nothing; short = rw e (omega arith) })

pub returns : goal.returns
returns c = let a = c.args in let e = (last_begun a.site a.run c.if-run.false (not-false a.run.begun c.if-not-run.false)).0 in (record { is = rw (e, ← c.line_of.ensures) c.put_line.ensures.is; short = rw (e, ← c.line_of.ensures) c.put_line.ensures.short })
