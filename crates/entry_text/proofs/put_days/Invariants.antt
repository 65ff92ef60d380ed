-- The loop's invariant: whatever puts what is left puts all of it.
use Prim.Native.Nat.{◌-◌}
use Rattle.text.specs.Joined.{joined}
use Rattle.text.proofs.PutsLaws.{Left}
use Rattle.plan.specs.Entry.{day_types}
use Rattle.entry_text.specs.EntryText.{day_text, days_text}
use Rattle.entry_text.proofs.put_days.Given as goal

abbrev pub invariant-loop-day : goal.invariant-loop-day
invariant-loop-day l = Left l.initial.out l.out (joined (day_text l.days) l.day (day_types - l.day)) (days_text l.days)
