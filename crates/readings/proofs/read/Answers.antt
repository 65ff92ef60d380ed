-- The poll's checks, then the readings; what is said of them are the laws.
use Rattle.readings.specs.declared.Readings.{Readings}
use Rattle.readings.specs.Readings.{readings_by, read_of, MeasuredNear}
use Rattle.readings.specs.SincePowerUp.{SincePowerUp}
use Rattle.readings.proofs.NearLaws.{near}
use Rattle.readings.proofs.WordsLaws.{in_words}
use Rattle.site.specs.declared.Site.{Site}
use Rattle.state.specs.declared.State.{State}
use mathlib.Core.Path.{◌≡◌, sym, subst}
use Rattle.readings.proofs.read.Goals as goal

-- The promises of an answer that is the definition's.
promised : (x : Site) (s : State) (r : Readings) → r ≡ read_of x s → (r ≡ read_of x s) × (MeasuredNear s.periods.last r × SincePowerUp x s r)
promised x s r is = (is, (subst (MeasuredNear s.periods.last) (sym is) (near x s), subst (SincePowerUp x s) (sym is) (in_words x s)))

pub returns-in-Some : goal.returns-in-Some
unfolding read_of readings_by
returns-in-Some c = let all = promised _ _ _ (rw (← c.refusal.ensures, c.in-Some.is) c.refused.ensures) in record { is = all.0; near = all.1.0; since = all.1.1 }

pub returns : goal.returns
unfolding read_of readings_by
returns c = let all = promised _ _ _ (rw (← c.refusal.ensures, c.in_default.is) c.of_periods.ensures) in record { is = all.0; near = all.1.0; since = all.1.1 }
