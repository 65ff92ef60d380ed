-- Past the arrays' end a lane's numbers read as 0.
use Rattle.lanes.specs.Lanes.{lane_of}
use lib.ListN.{length, get_or-eq_default}
use native.Mathlib.Omega.{arith}
use mathlib.Core.Path.{◌≡◌}
use borrow.Author.Rules.{rules}
use Rattle.lanes.proofs.lane_at.Goals as goal

pub returns-then-k-ge4 : goal.returns-then-k-ge4
unfolding lane_of
returns-then-k-ge4 c =
    let a = c.args in
    let k : length a.s.colours ≡ 4 = search rules in
    let g : length a.s.ages ≡ 4 = search rules in
    let n : length a.s.counters ≡ 4 = search rules in
    let p : length a.s.passages ≡ 4 = search rules in
    rw (
      get_or-eq_default a.s.colours 0 {n = a.i} (omega arith),
      get_or-eq_default a.s.ages 0 {n = a.i} (omega arith),
      get_or-eq_default a.s.counters 0 {n = a.i} (omega arith),
      get_or-eq_default a.s.passages 0 {n = a.i} (omega arith),
    )

pub returns : goal.returns
unfolding lane_of
returns c = search rules
