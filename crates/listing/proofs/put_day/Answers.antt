-- The loop's invariant: whatever puts the day's lines from the next start on puts all of them.
use Rattle.listing.proofs.Turns.{minutes_turn, minutes_end, skip}
use Rattle.listing.proofs.NextStart.{NextStart, next_start_is}
use Rattle.listing.specs.Timetable.{starting_at}
use Rattle.text.proofs.PutsLaws.{left_turn, left_end}
use Prim.Native.Nat.{ℕ, ◌+◌}
use mathlib.Core.List.{List, ◌++◌}
use mathlib.Core.Path.{ap, ◌∙◌}
use borrow.Author.Rules.{rules}
use native.Mathlib.Omega.{arith}
use Rattle.listing.proofs.put_day.Goals as goal
use Rattle.listing.proofs.put_day.Goals.{After-next_start-start-in-loop-start}

-- The start after this one.
then : (c : After-next_start-start-in-loop-start)
    → NextStart c.args.plan.numbers.now c.args.plan.count (c.loop-start.start + 1) c.next_start-start-in-loop-start.result
then c =
    let a = c.args in
    rw (← c.next_start-start-in-loop-start.ensures) at (next_start_is a.plan.numbers.now (c.loop-start.start + 1) a.plan.count (search rules))

pub loop-start-init : goal.loop-start-init
loop-start-init c =
    let a = c.args in
    let n = rw (← c.next_start-start.ensures) at (next_start_is a.plan.numbers.now 0 a.plan.count (search rules)) in
    (n.within, λ t g. rw (skip a.plan.numbers.now a.plan.count a.day 0 _ n) g)

pub loop-start-smaller : goal.loop-start-smaller
loop-start-smaller c = omega (arith, (then c).after)

pub loop-start-preserved : goal.loop-start-preserved
loop-start-preserved c =
    let n = then c in
    let a = c.args in (
      n.within,
      left_turn c.loop-start.invariant.1 c.put_starting.ensures (minutes_turn a.plan.numbers.now a.plan.count a.day c.loop-start.start (search rules) ∙ ap (λ (l : List ℕ). starting_at a.plan.numbers.now a.day c.loop-start.start 0 a.plan.count ++ l) (skip a.plan.numbers.now a.plan.count a.day (c.loop-start.start + 1) _ n)),
    )

pub returns : goal.returns
returns c =
    let a = c.args in
    left_end c.loop-start.invariant.1 (minutes_end a.plan.numbers.now a.plan.count a.day c.loop-start.start (search rules))
