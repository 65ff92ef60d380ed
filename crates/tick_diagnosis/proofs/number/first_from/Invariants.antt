-- The loop's invariant: what is left to look through answers as the whole does.
use Rattle.std.specs.Prelude.{◌≡◌, ℕ, ◌<◌, Option}
use Rattle.tick_diagnosis.specs.declared.number.Number.{Number}
use Rattle.tick_diagnosis.proofs.NumberLaws.{FirstLeft}
use Rattle.tick_diagnosis.proofs.number.first_from.Given as goal

abbrev pub invariant-loop-i : goal.invariant-loop-i
invariant-loop-i g l =
    goal.F-IsAlwaysCallable g l.lane
    × ((f : ℕ → Option Number) → ((i : ℕ) (x : Option Number) → i < l.n → goal.F-post g l.fn.lane i x → x ≡ f i) → FirstLeft f l.n l.rest l.i)
