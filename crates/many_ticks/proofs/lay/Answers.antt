-- The loop's invariant: storing what is left of the bytes, from its place on, leaves what storing all of them leaves.
use mathlib.Core.Path.{◌≡◌, refl, sym, ◌∙◌}
use native.Mathlib.Omega.{arith}
use lib.ListN.{length}
use borrow.Author.Rules.{rules}
use Rattle.many_ticks.specs.Many.{shown_bytes}
use Rattle.many_ticks.proofs.ShownLaws.{lane_laid, sign_laid}
use Rattle.many_ticks.proofs.lay.Goals as goal

pub loop-i-init : goal.loop-i-init
loop-i-init c = (omega arith, refl, refl)

pub overflow_cast-out : goal.overflow_cast-out
overflow_cast-out c = omega (arith, c.requires.2 c.loop-i.i)

pub loop-i-preserved : goal.loop-i-preserved
loop-i-preserved c =
    let a = c.args in
    let four : length a.shown.colours ≡ 4 = search rules in
    (search rules, search rules, lane_laid a.shown.colours a.n a.shown.sign (omega (arith, four)) c.loop-i.out c.loop-i.i c.loop-i-test.true ∙ c.loop-i.invariant.2)

pub returns : goal.returns
unfolding shown_bytes
returns c =
    let a = c.args in
    let e : c.loop-i.i ≡ a.n = search rules in
    sym (sign_laid a.shown.colours c.loop-i.out a.n a.shown.sign) ∙ (rw e at c.loop-i.invariant.2)
