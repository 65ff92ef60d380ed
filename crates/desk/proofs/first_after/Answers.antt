-- The loop's invariant: what is left to look through answers as the whole does.
use Rattle.desk.specs.Desk.{has_place}
use Rattle.turns.specs.Turn.{next_of}
use Rattle.turns.proofs.FirstLaws.{next_from_1, first_found, first_turn, first_end}
use mathlib.Core.Path.{◌≡◌, refl, ap, sym, ◌∙◌}
use Prim.Native.Nat.{ℕ, ◌+◌, ◌-◌}
use native.Mathlib.Omega.{arith}
use borrow.Author.Rules.{rules}
use Rattle.desk.proofs.first_after.Goals as goal
use Rattle.desk.proofs.first_after.Goals.{After-has_place}

one_less : (i : ℕ) → 32 - (i + 1) ≡ 32 - i - 1
one_less i = omega arith

is_there : (c : After-has_place)
    → c.has_place.result ≡ has_place c.args.d (next_of 32 c.loop.k)
is_there c = c.has_place.ensures ∙ ap (has_place c.args.d) c.next_place-k.ensures

pub loop-init : goal.loop-init
loop-init c = (search rules, refl)

pub has_place-requires : goal.has_place-requires
has_place-requires c = rw c.next_place-k.ensures (next_from_1 _ _)

pub returns-then-has_place : goal.returns-then-has_place
returns-then-has_place c =
    c.next_place-k.ensures ∙ first_found (has_place c.args.d) 32 c.loop.k (32 - c.loop.counter) (search rules) (sym (is_there (goal.at.returns-then-has_place c).After-has_place) ∙ c.if-has_place.true) ∙ c.loop.invariant.1

pub loop-preserved : goal.loop-preserved
loop-preserved c =
    (search rules, rw (c.next_place-k.ensures, one_less c.loop.counter) (first_turn (has_place c.args.d) 32 c.loop.k (32 - c.loop.counter) (search rules) (sym (is_there (goal.at.loop-preserved c).After-has_place) ∙ c.if-has_place.false) ∙ c.loop.invariant.1))

pub returns : goal.returns
returns c =
    first_end (has_place c.args.d) 32 c.loop.k (32 - c.loop.counter) (search rules) ∙ c.loop.invariant.1
