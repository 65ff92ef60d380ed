-- The greatest number of tenths is from `lo` to below `hi`, and each test halves what lies between.
use mathlib.Core.Path.{◌≡◌, sym, ap, ◌∙◌}
use native.Mathlib.Omega.{arith}
use Rattle.speed.specs.Tenths.{tenths_of}
use Rattle.speed.proofs.TenthsLaws.{most, at_least, below, tenths_exact}
use Rattle.speed.proofs.tenth.tenths.Goals as goal

pub loop-hi-init : goal.loop-hi-init
loop-hi-init c = omega (arith, most c.args.x)

pub overflow_sub-hi : goal.overflow_sub-hi
overflow_sub-hi c = omega arith

pub overflow_sub-k : goal.overflow_sub-k
overflow_sub-k c = omega arith

pub overflow_add-k : goal.overflow_add-k
overflow_add-k c = omega arith

pub loop-hi-smaller-then-reaches : goal.loop-hi-smaller-then-reaches
loop-hi-smaller-then-reaches c = omega arith

pub loop-hi-preserved-then-reaches : goal.loop-hi-preserved-then-reaches
loop-hi-preserved-then-reaches c = omega (arith, at_least _ _ (omega arith) (sym c.reaches.ensures ∙ c.if-reaches.true))

pub loop-hi-smaller : goal.loop-hi-smaller
loop-hi-smaller c = omega arith

pub loop-hi-preserved : goal.loop-hi-preserved
loop-hi-preserved c = omega (arith, below _ _ (omega arith) (sym c.reaches.ensures ∙ c.if-reaches.false))

pub returns : goal.returns
returns c =
    let found : c.loop-hi.lo ≡ tenths_of c.args.x = omega arith in (record { is = found; exact = λ v ms t e. found ∙ ap tenths_of e ∙ tenths_exact v ms t })
