-- The code's tests are the definition's.
use borrow.Author.Tests.{not-true, not-false}
use mathlib.Core.Path.{sym, ◌∙◌}
use Rattle.replay_lines.proofs.ReplayLaws.{last_ended, last_between, last_begun}
use Rattle.replay_lines.proofs.run.last.Goals as goal

pub returns-then-run : goal.returns-then-run
returns-then-run c = sym (last_ended _ _ c.if-run.true).1

pub returns-then-not-run : goal.returns-then-not-run
returns-then-not-run c = sym (last_between _ _ c.if-run.false (not-true _ c.if-not-run.true)).1

pub returns : goal.returns
returns c = rw (← c.line_of.ensures) c.after_line.ensures ∙ sym (last_begun _ _ c.if-run.false (not-false _ c.if-not-run.false)).1
