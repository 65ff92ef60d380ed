-- The code's test is the definition's.
use mathlib.Core.Bool.{Bool, true, false, not, true≢false}
use mathlib.Core.Path.{◌≡◌, refl, sym, ◌∙◌}
use Rattle.tick_diagnosis.specs.Numbers.{number_of}
use Rattle.tick_diagnosis.proofs.number.long_number.Goals as goal

is_not : (b : Bool) → not b ≡ true → b ≡ false
is_not true e = absurd (true≢false (sym e))
is_not false e = refl

is : (b : Bool) → not b ≡ false → b ≡ true
is true e = refl
is false e = absurd (true≢false e)

pub returns-then-outside : goal.returns-then-outside
unfolding number_of
returns-then-outside c = rw (is_not _ (sym c.outside.ensures ∙ c.if-outside.true))

pub returns : goal.returns
unfolding number_of
returns c = rw (is _ (sym c.outside.ensures ∙ c.if-outside.false))
