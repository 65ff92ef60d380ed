-- No kind is below 0.
use Rattle.tick_diagnosis.specs.Numbers.{mode_of}
use native.Mathlib.Omega.{arith}
use borrow.Author.Rules.{rules}
use Rattle.tick_diagnosis.proofs.number.mode_of.Goals as goal

pub returns-then-kind-eq-NONE : goal.returns-then-kind-eq-NONE
unfolding mode_of
returns-then-kind-eq-NONE c = omega arith

pub returns-else-kind-eq-NONE : goal.returns-else-kind-eq-NONE
unfolding mode_of
returns-else-kind-eq-NONE c = search rules
