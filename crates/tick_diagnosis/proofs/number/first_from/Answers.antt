-- The loop's invariant: what is left to look through answers as the whole does.
use Rattle.tick_diagnosis.proofs.NumberLaws.{first_at_start, first_found, first_turn, first_none}
use mathlib.Core.Path.{sym, ◌∙◌}
use borrow.Author.Rules.{rules}
use Rattle.tick_diagnosis.proofs.number.first_from.Goals as goal

pub loop-i-init : goal.loop-i-init
loop-i-init g c = (c.requires, λ f is. first_at_start f c.args.n c.args.rest)

pub returns-in-Some : goal.returns-in-Some
returns-in-Some g c f is = first_found (c.loop-i.invariant.1 f is) (search rules) (sym (is _ _ (search rules) c.lane.ensures) ∙ c.in-Some.is)

pub loop-i-preserved : goal.loop-i-preserved
loop-i-preserved g c =
    (c.loop-i.invariant.0, λ f is. first_turn (c.loop-i.invariant.1 f is) (search rules) (sym (is _ _ (search rules) c.lane.ensures) ∙ c.in_default.is))

pub returns : goal.returns
returns g c f is = first_none (c.loop-i.invariant.1 f is) (search rules)
