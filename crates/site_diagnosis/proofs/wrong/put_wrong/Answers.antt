-- The code's cases are the definition's; past them the section is whole.
use Rattle.site_diagnosis.proofs.DiagnosisLaws.{other_wrong}
use Rattle.site_diagnosis.specs.Wrong.{wrong_text}
use Rattle.site.proofs.Sizes.{no_longer}
use Rattle.site.proofs.SectionLaws.{out_of_range}
use Rattle.numbers.specs.Words.{words}
use lib.ListN.{length}
use Rattle.site_diagnosis.proofs.wrong.put_wrong.Goals as goal

pub returns-in-ShortFile : goal.returns-in-ShortFile
unfolding wrong_text
returns-in-ShortFile c = rw c.in-ShortFile.is c.put_missing.ensures

pub returns-in-WrongCount : goal.returns-in-WrongCount
unfolding wrong_text
returns-in-WrongCount c = rw (c.in-WrongCount.is, ← c.word.ensures) c.put_count.ensures

pub put_bad_number_in-requires : goal.put_bad_number_in-requires
put_bad_number_in-requires c =
    let o = out_of_range c.args.section (length c.args.file.now) (words c.args.file.now) c.args.q c.requires c.in_default.not-ShortFile c.in_default.not-WrongCount in
    (no_longer c.args.section, o.allowed, o.whole)

pub returns-in_default : goal.returns-in_default
returns-in_default c =
    rw (other_wrong _ _ _ _ c.in_default.not-ShortFile c.in_default.not-WrongCount) c.put_bad_number_in.ensures
