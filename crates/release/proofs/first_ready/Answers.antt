-- The loop's invariant: what is left to look through answers as the whole does.
use Rattle.release.specs.Release.{ready_at}
use Rattle.turns.specs.Turn.{next_of}
use Rattle.turns.proofs.FirstLaws.{next_from_1, first_turn}
use Prim.Native.Nat.{ℕ, ◌+◌, ◌-◌}
use mathlib.Core.Path.{◌≡◌, ap, sym, ◌∙◌}
use mathlib.Core.Bool.{Bool}
use borrow.Author.Rules.{rules}
use Rattle.release.proofs.first_ready.Goals as goal
use Rattle.release.proofs.first_ready.Goals.{After-ready_at, Start}

abbrev ready : Start → ℕ → Bool
ready s = ready_at s.args.t s.args.cycle s.args.demand s.args.s

is_ready_lem : (c : After-ready_at)
    → c.ready_at.result ≡ ready c.before.before.before.before (next_of c.args.t.lanes c.loop-turn.k)
is_ready_lem c = c.ready_at.ensures ∙ ap (ready c.before.before.before.before) c.next_lane-k.ensures

pub ready_at-requires : goal.ready_at-requires
ready_at-requires c = rw c.next_lane-k.ensures (next_from_1 _ _)

pub loop-turn-preserved : goal.loop-turn-preserved
loop-turn-preserved c =
    let less : c.args.t.lanes - (c.loop-turn._turn + 1) ≡ c.args.t.lanes - c.loop-turn._turn - 1 = search rules in
    rw (c.next_lane-k.ensures, less) (first_turn (ready (goal.at.loop-turn-preserved c).Start) c.args.t.lanes c.loop-turn.k (c.args.t.lanes - c.loop-turn._turn) (search rules) (sym (is_ready_lem (goal.at.loop-turn-preserved c).After-ready_at) ∙ c.if-ready_at.false) ∙ c.loop-turn.invariant)
