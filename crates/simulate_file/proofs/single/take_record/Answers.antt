-- A record has its size.
use Rattle.tick_record.proofs.RecordLaws.{is_whole}
use borrow.Author.Tests.{not-false}
use Rattle.std.proofs.Common.{sym, ◌∙◌}
use Rattle.simulate_file.proofs.single.take_record.Goals as goal

pub input_of-input-requires : goal.input_of-input-requires
input_of-input-requires c =
    let a = c.args in
    is_whole a.bytes.now _ _ (sym c.is_record.ensures ∙ not-false c.is_record.result c.if-not-is_record.false-raw)
