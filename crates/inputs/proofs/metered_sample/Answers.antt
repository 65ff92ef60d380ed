-- Past the arrays' end a sample reads as 0.
use lib.ListN.{length, get_or-eq_default}
use native.Mathlib.Omega.{arith}
use mathlib.Core.Path.{◌≡◌}
use borrow.Author.Rules.{rules}
use Rattle.inputs.proofs.metered_sample.Goals as goal

pub returns-then-k-ge4 : goal.returns-then-k-ge4
returns-then-k-ge4 c =
    let a = c.args in
    let d : length a.s.demand ≡ 4 = search rules in
    let p : length a.s.passage ≡ 4 = search rules in
    rw (get_or-eq_default a.s.demand 0 {n = a.i} (omega arith), get_or-eq_default a.s.passage 0 {n = a.i} (omega arith))
