-- By computation.
use mathlib.Core.Path.{refl}
use Rattle.desk.proofs.PollingLaws.{polled_in_time}
use Rattle.desk.specs.Desk.{fresh_desk}
use Rattle.desk.proofs.fresh.Goals as goal

pub returns : goal.returns
unfolding fresh_desk
returns c = (record { is = refl; polled_in_time = polled_in_time _ })
