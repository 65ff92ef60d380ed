-- The tests are the definition's.
use Rattle.tick_record.specs.Record.{record_size, is_record}
use borrow.Author.Tests.{eq-eqb, ne_eqb}
use mathlib.Core.Path.{sym, ◌∙◌}
use lib.ListN.{length}
use Rattle.tick_record.proofs.is_record.Goals as goal

pub returns-then-bytes-size : goal.returns-then-bytes-size
unfolding is_record
returns-then-bytes-size c =
    let a = c.args in
    rw (ne_eqb (length a.bytes.now) (record_size a.shape.lanes a.shape.mainline) (λ e. c.if-bytes-size.true (e ∙ sym c.size.ensures)))

pub returns : goal.returns
unfolding is_record
returns c =
    let a = c.args in
    c.counts_right.ensures ∙ rw (eq-eqb (length a.bytes.now) (record_size a.shape.lanes a.shape.mainline) (c.if-bytes-size.false ∙ c.size.ensures))
