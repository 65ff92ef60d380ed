-- The loop's invariant: what is left to do comes to what the whole call comes to.
use Prim.Native.Nat.{◌+◌, ◌-◌}
use mathlib.Core.Path.{◌≡◌}
use mathlib.Core.Bool.{false}
use lib.ListN.{length}
use Rattle.site.specs.Record.{spoilt_site}
use Rattle.site.specs.Named.{metered_lanes, mainline_lanes}
use Rattle.tick_record.specs.Record.{record_size}
use Rattle.many_ticks.specs.Known.{Holds}
use Rattle.many_ticks.proofs.RunLaws.{Left}
use Rattle.many_ticks.proofs.run_all.Given as goal

abbrev pub invariant-loop-from : goal.invariant-loop-from
invariant-loop-from l =
    (l.size ≡ record_size (metered_lanes l.site) (mainline_lanes l.site))
    × (l.width ≡ metered_lanes l.site + 1)
    × (spoilt_site l.site ≡ false)
    × Left l.site l.initial.state l.records l.initial.out l.state l.from l.at l.accepted l.out
    × Holds l.site l.known l.state.periods

abbrev pub decreases-loop-from : goal.decreases-loop-from
decreases-loop-from l = length l.records - l.from
