-- The words as they are kept give the lines of the words.
use Rattle.text.proofs.PutsLaws.{puts_as}
use Rattle.word_value.specs.Signed.{word_read}
use Rattle.yellow_sheet.proofs.KeptLaws.{complaint_kept}
use Rattle.yellow_sheet.proofs.complaint.put_complaint.Goals as goal

pub returns : goal.returns
returns c =
    let speed = c.args.speed.now in
    let grade = c.args.grade.now in
    puts_as (rw (c.read.ensures, c.read-2.ensures) (complaint_kept speed (word_read speed) grade (word_read grade))) c.put_of_words.ensures
