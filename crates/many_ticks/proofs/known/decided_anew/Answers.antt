-- What is decided is kept as it was asked.
use mathlib.Core.Path.{refl, sym}
use Rattle.many_ticks.proofs.KnownLaws.{holds_anew}
use Rattle.many_ticks.proofs.known.decided_anew.Goals as goal

pub returns-clause-holds : goal.returns-clause-holds
returns-clause-holds c =
    let a = c.args in
    holds_anew a.site _ a.input a.counted (record { date = refl; minute = sym c.minute_of.ensures; manual = refl; centre = refl }) c.decision_of.ensures
