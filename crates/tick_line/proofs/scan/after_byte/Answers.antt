-- The code's test is the definition's.
use mathlib.Core.Path.{sym, ◌∙◌}
use Rattle.tick_line.proofs.ScanLaws.{behind_return, behind_other}
use Rattle.tick_line.proofs.scan.after_byte.Goals as goal

pub returns-then-s : goal.returns-then-s
returns-then-s c = c.with_other.ensures ∙ sym (behind_return _ _ c.if-s.true)

pub returns : goal.returns
returns c = c.with_byte.ensures ∙ sym (behind_other _ _ c.if-s.false)
