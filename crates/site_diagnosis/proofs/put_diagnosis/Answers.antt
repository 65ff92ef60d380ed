-- Each return is one case of `diagnosis_line`, by its law in `DiagnosisLaws`.
use Rattle.site_diagnosis.proofs.DiagnosisLaws.{in_timings, in_entries, in_holidays, in_levels, behind_levels, nothing_wrong}
use Rattle.site.proofs.SectionLaws.{one_found, accepted}
use Rattle.site.specs.declared.Found.{Found}
use Rattle.ranges.specs.declared.Section.TheVariants.{Levels}
use Rattle.numbers.proofs.WordLaws.{words_low}
use Rattle.numbers.specs.Words.{words}
use Rattle.text.proofs.PutsLaws.{puts_nothing}
use lib.ListN.{length}
use mathlib.Core.Path.{ap, sym}
use native.Mathlib.Omega.{arith}
use Rattle.site_diagnosis.proofs.put_diagnosis.Goals as goal

pub returns-in-Err : goal.returns-in-Err
returns-in-Err c =
    let line = in_timings c.args.name.now c.args.file.now _ (sym c.in-Err.ensures) in (record { is = rw line.is c.put_section.ensures; diagnosed = line.diagnosed })

pub returns-in-Err-find_section : goal.returns-in-Err-find_section
returns-in-Err-find_section c =
    let line = in_entries c.args.name.now c.args.file.now _ (sym c.in-Ok.ensures) _ (sym c.in-Err-find_section.ensures) in (record { is = rw line.is c.put_section-in-Err-find_section.ensures; diagnosed = line.diagnosed })

pub returns-in-Err-find_section-2 : goal.returns-in-Err-find_section-2
returns-in-Err-find_section-2 c =
    let line = in_holidays c.args.name.now c.args.file.now _ (sym c.in-Ok.ensures) _ (sym c.in-Ok-find_section.ensures) _ (sym c.in-Err-find_section-2.ensures) in (record { is = rw line.is c.put_section-in-Err-find_section-2.ensures; diagnosed = line.diagnosed })

pub returns-in-Err-find_section-3 : goal.returns-in-Err-find_section-3
returns-in-Err-find_section-3 c =
    let line = in_levels c.args.name.now c.args.file.now _ (sym c.in-Ok.ensures) _ (sym c.in-Ok-find_section.ensures) _ (sym c.in-Ok-find_section-2.ensures) _ (sym c.in-Err-find_section-3.ensures) in (record { is = rw line.is c.put_section-in-Err-find_section-3.ensures; diagnosed = line.diagnosed })

pub overflow_mul-end : goal.overflow_mul-end
overflow_mul-end c =
    let f = c.args.file.now in
    let e = sym c.in-Ok-find_section-3.ensures in
    let g = accepted Levels (length f) (words f) c.in-Ok-find_section-2.found.next e in
    omega (arith, words_low f, g.whole, ap (λ (x : Found). x.next) (one_found _ e g.is))

pub returns-then-end-file : goal.returns-then-end-file
returns-then-end-file c =
    let line = behind_levels c.args.name.now c.args.file.now _ (sym c.in-Ok.ensures) _ (sym c.in-Ok-find_section.ensures) _ (sym c.in-Ok-find_section-2.ensures) _ (sym c.in-Ok-find_section-3.ensures) c.if-end-file.true in (record { is = rw line.is c.put_long.ensures; diagnosed = line.diagnosed })

pub returns : goal.returns
returns c =
    let line = nothing_wrong c.args.name.now c.args.file.now _ (sym c.in-Ok.ensures) _ (sym c.in-Ok-find_section.ensures) _ (sym c.in-Ok-find_section-2.ensures) _ (sym c.in-Ok-find_section-3.ensures) c.if-end-file.false in (record { is = rw line.is puts_nothing; diagnosed = line.diagnosed })
