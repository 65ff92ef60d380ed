-- What a call may keep of the last decision: day type and entry do not change while the clock stays in one minute, and neither does what is
-- wanted, under the same commands, before the next period is completed.
use Rattle.std.specs.Prelude.{◌≡◌, Option, Some, None}
use Rattle.site.specs.declared.Site.{Site}
use Rattle.period.specs.declared.Periods.{Periods}
use Rattle.wanted.specs.Decision.{minute_of}
use Rattle.tick.specs.declared.Input.{Input}
use Rattle.tick.specs.Tick.{decided_of}
use Rattle.many_ticks.specs.declared.known.Known.{Known}

-- An input asks what was asked.
pub record Asked (k : Known) (i : Input) : Type 0 where
  pub date : i.clock.date ≡ k.date
  pub minute : minute_of i.clock ≡ k.minute
  pub manual : i.manual ≡ k.manual
  pub centre : i.centre ≡ k.centre

-- Where something is kept, it is what every input that asks the same decides, with every period that has completed the same.
unfoldable pub Holds : Site → Option Known → Periods → Type 0
Holds x None p = Unit {0}
Holds x (Some k) p = (i : Input) → Asked k i → (q : Periods) → q.serial ≡ p.serial → q.last ≡ p.last → decided_of x i q ≡ k.decided
