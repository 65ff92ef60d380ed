-- The code's test is the definition's; what the line says of the input is law `diagnosed`.
use Rattle.tick_diagnosis.specs.Diagnosis.{diagnosis_line}
use Rattle.tick_diagnosis.proofs.DiagnosisLaws.{diagnosed}
use Rattle.text.proofs.PutsLaws.{puts_nothing}
use Rattle.tick_diagnosis.proofs.put_diagnosis.Goals as goal

pub returns-in-Some : goal.returns-in-Some
unfolding diagnosis_line
returns-in-Some c =
    let a = c.args in
    record { is = rw (← c.first_bad.ensures, c.in-Some.is) c.put_number.ensures; diagnosed = diagnosed a.line a.shape a.input }

pub returns-in-None : goal.returns-in-None
unfolding diagnosis_line
returns-in-None c =
    let a = c.args in
    record { is = rw (← c.first_bad.ensures, c.in-None.is) puts_nothing; diagnosed = diagnosed a.line a.shape a.input }
