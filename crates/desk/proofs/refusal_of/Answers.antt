-- The two checks, in turn.
use borrow.Author.Tests.{lt-ltb, le-ltb}
use mathlib.Core.Path.{sym, ◌∙◌}
use Rattle.desk.specs.Desk.{refusal_of}
use Rattle.desk.proofs.refusal_of.Goals as goal

pub returns-then-spoilt : goal.returns-then-spoilt
unfolding refusal_of
returns-then-spoilt c = rw (sym c.spoilt.ensures ∙ c.if-spoilt.true)

pub returns-then-most-number : goal.returns-then-most-number
unfolding refusal_of
returns-then-most-number c = rw (sym c.spoilt.ensures ∙ c.if-spoilt.false, lt-ltb _ _ c.if-most-number.true)

pub returns : goal.returns
unfolding refusal_of
returns c = rw (sym c.spoilt.ensures ∙ c.if-spoilt.false, le-ltb _ _ c.if-most-number.false)
