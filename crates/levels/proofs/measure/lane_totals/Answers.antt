-- The loop's invariant: each sum is that over the lanes so far.
use Rattle.levels.specs.Measures.{totals_of}
use mathlib.Core.Path.{◌≡◌}
use borrow.Author.Rules.{rules}
use Rattle.levels.proofs.measure.lane_totals.Goals as goal

pub returns : goal.returns
unfolding totals_of
returns c =
    let i = c.loop-j.invariant in
    let all : c.loop-j.j ≡ c.args.m = search rules in (record { is = rw (i.1.is, i.2.is, i.3.is, i.4.is, i.5.is, all); small = (search rules, search rules, search rules, search rules) })
