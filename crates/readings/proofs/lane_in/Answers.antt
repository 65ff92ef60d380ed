-- Within an array of six its default does not matter; past it there is no reading.
use lib.ListN.{length, get_or-eq_default}
use mathlib.Core.Path.{◌≡◌, sym, ◌∙◌}
use native.Mathlib.Omega.{arith}
use Rattle.lane_speeds.proofs.RangeLaws.{length_of_mapped}
use Rattle.loops.proofs.EachLaws.{any_default}
use Rattle.readings.specs.Readings.{no_reading}
use borrow.Author.Rules.{rules}
use Rattle.readings.proofs.lane_in.Goals as goal

pub returns-then-i-ge6 : goal.returns-then-i-ge6
returns-then-i-ge6 c =
    let a = c.args in
    let n : length a.r.lanes ≡ 6 = search (rules, length_of_mapped) in
    c.no_reading.ensures ∙ sym (get_or-eq_default a.r.lanes no_reading {n = a.j} (omega arith))

pub returns : goal.returns
returns c =
    let a = c.args in
    let n : length a.r.lanes ≡ 6 = search (rules, length_of_mapped) in
    any_default a.r.lanes _ _ a.j (omega arith)
