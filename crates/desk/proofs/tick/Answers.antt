-- The checks, then once more or on.
use Rattle.refusals.proofs.NoneLaws.{no_refusal, refused, accepted}
use mathlib.Core.Path.{sym, ◌∙◌}
use Rattle.desk.specs.Tick.{refused_of, tick_of}
use Rattle.desk.proofs.DeskLaws.{passes, again}
use Rattle.desk.proofs.Promises.{tick_promises}
use Rattle.desk.proofs.tick.Goals as goal

pub returns-then-is_some : goal.returns-then-is_some
unfolding tick_of refused_of
returns-then-is_some c = let all = tick_promises c.args.desk c.args.answer (refused_of c.args.desk c.refusal_of-refusal.result)
    (rw (← c.refusal_of-refusal.ensures, refused _ (sym c.is_some.ensures ∙ c.if-is_some.true))) in record { is = all.0; words = all.1.0; no_other = all.1.1.0; in_range = all.1.1.1.0; polled_in_time = all.1.1.1.1 }

pub again-requires : goal.again-requires
again-requires c = (again _ _ (sym c.is_again.ensures ∙ c.if-is_again.true)).tries_left

pub returns-then-is_again : goal.returns-then-is_again
unfolding tick_of refused_of
returns-then-is_again c = let all = tick_promises c.args.desk c.args.answer c.again.result
    (rw (← c.refusal_of-refusal.ensures, accepted _ (sym c.is_some.ensures ∙ c.if-is_some.false), sym c.is_again.ensures ∙ c.if-is_again.true) c.again.ensures) in record { is = all.0; words = all.1.0; no_other = all.1.1.0; in_range = all.1.1.1.0; polled_in_time = all.1.1.1.1 }

pub passed-requires : goal.passed-requires
passed-requires c = (passes _ _ _ (sym c.refusal_of-refusal.ensures ∙ no_refusal _ (accepted _ (sym c.is_some.ensures ∙ c.if-is_some.false)))).in_range.turn_most

pub returns : goal.returns
unfolding tick_of refused_of
returns c = let all = tick_promises c.args.desk c.args.answer c.passed.result
    (rw (← c.refusal_of-refusal.ensures, accepted _ (sym c.is_some.ensures ∙ c.if-is_some.false), sym c.is_again.ensures ∙ c.if-is_again.false) c.passed.ensures) in record { is = all.0; words = all.1.0; no_other = all.1.1.0; in_range = all.1.1.1.0; polled_in_time = all.1.1.1.1 }
