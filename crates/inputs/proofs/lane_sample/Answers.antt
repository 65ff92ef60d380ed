-- Past the arrays' end a sample reads as 0.
use lib.ListN.{length, get_or-eq_default}
use native.Mathlib.Omega.{arith}
use mathlib.Core.Path.{◌≡◌}
use borrow.Author.Rules.{rules}
use Rattle.inputs.proofs.lane_sample.Goals as goal

pub returns-then-k-ge6 : goal.returns-then-k-ge6
returns-then-k-ge6 c =
    let a = c.args in
    let w : length a.s.working ≡ 6 = search rules in
    let o : length a.s.occupied ≡ 6 = search rules in
    let v : length a.s.vehicles ≡ 6 = search rules in
    let p : length a.s.time ≡ 6 = search rules in
    rw (
      get_or-eq_default a.s.working 0 {n = a.j} (omega arith),
      get_or-eq_default a.s.occupied 0 {n = a.j} (omega arith),
      get_or-eq_default a.s.vehicles 0 {n = a.j} (omega arith),
      get_or-eq_default a.s.time 0 {n = a.j} (omega arith),
    )
