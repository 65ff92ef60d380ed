-- The code's three tests are the definition's; an allowed count's numbers are a part of the array.
use Rattle.site.proofs.SpoiltLaws.{spoilt_count, spoilt_number, spoilt_rest}
use Rattle.site.proofs.Sizes.{fits}
use Rattle.ranges.specs.Sections.{allowed_of, zeros}
use lib.Seq.{length-take-le, take_all}
use lib.ListN.{length, drop, length-drop}
use borrow.Author.Tests.{not-true, not-false}
use Prim.Native.Nat.{◌≤◌, ◌-◌}
use mathlib.Core.Bool.{true, not}
use mathlib.Core.Path.{◌≡◌, ap, sym, ◌∙◌}
use native.Mathlib.Nat.{le_of_eq}
use native.Mathlib.Omega.{arith}
use Rattle.site.proofs.spoilt_section.Goals as goal
use Rattle.site.proofs.spoilt_section.Goals.{After-size-k, Else-not-allowed}

is-allowed : (c : Else-not-allowed) → allowed_of c.args.section c.args.count ≡ true
is-allowed c = sym c.allowed.ensures ∙ not-false _ c.if-not-allowed.false-raw

is-part : (c : After-size-k) → c.size-k.result ≤ length c.args.v.now
is-part c =
    let a = c.args in
    omega (arith, c.size-k.ensures, fits a.section a.count (sym c.allowed.ensures ∙ not-false _ c.if-not-allowed.false-raw), c.requires)

pub returns-then-not-allowed : goal.returns-then-not-allowed
returns-then-not-allowed c = let a = c.args in spoilt_count a.section a.count a.v.now (sym c.allowed.ensures ∙ not-true _ c.if-not-allowed.true-raw)

pub slice_bounds-first_bad-end : goal.slice_bounds-first_bad-end
slice_bounds-first_bad-end c = sym (length-take-le _ _ (is-part (goal.at.slice_bounds-first_bad-end c).After-size-k))

pub returns-then-first_bad-k : goal.returns-then-first_bad-k
returns-then-first_bad-k c =
    let a = c.args in
    spoilt_number a.section a.count a.v.now (is-allowed (goal.at.returns-then-first_bad-k c).Else-not-allowed) _ c.size-k.ensures _ c.first_bad.ensures c.if-first_bad-k.true

pub offset_bounds-v-k : goal.offset_bounds-v-k
offset_bounds-v-k c = omega (arith, is-part (goal.at.offset_bounds-v-k c).After-size-k)

pub slice_bounds-all_zero-count : goal.slice_bounds-all_zero-count
slice_bounds-all_zero-count c = is-part (goal.at.slice_bounds-all_zero-count c).After-size-k

pub slice_bounds-all_zero-start : goal.slice_bounds-all_zero-start
slice_bounds-all_zero-start c = is-part (goal.at.slice_bounds-all_zero-start c).After-size-k

pub returns : goal.returns
returns c =
    let a = c.args in
    let k = c.size-k.result in
    ap not (c.all_zero-zeros_beyond.ensures ∙ ap zeros (take_all (length a.v.now - k) (drop k a.v.now) (le_of_eq (length-drop k a.v.now))))
    ∙ spoilt_rest a.section a.count a.v.now (is-allowed (goal.at.returns c).Else-not-allowed) _ c.size-k.ensures _ c.first_bad.ensures c.if-first_bad-k.false
