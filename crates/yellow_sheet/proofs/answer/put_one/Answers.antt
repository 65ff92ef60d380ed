-- The words as they are kept give the answer to the words.
use Rattle.text.proofs.PutsLaws.{puts_as}
use Rattle.word_value.specs.Signed.{word_read}
use Rattle.yellow_sheet.proofs.KeptLaws.{answer_kept}
use Rattle.yellow_sheet.proofs.answer.put_one.Goals as goal

pub returns : goal.returns
returns c =
    puts_as (rw (c.read.ensures, c.read-2.ensures) (answer_kept (word_read c.args.speed.now) (word_read c.args.grade.now))) c.put_of_words.ensures
