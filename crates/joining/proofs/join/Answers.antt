-- The calls are the definition's; the two lists have 16 entries at most.
use Rattle.joining.proofs.JoinLaws.{spoilt_first, spoilt_second, count_most, kept_count, too_many, joins}
use Rattle.joining.proofs.Promises.{promised}
use Rattle.joining.specs.Joining.{spoilt_list}
use Prim.Native.Nat.{◌≤◌}
use mathlib.Core.Bool.{false}
use mathlib.Core.Path.{◌≡◌, sym, ◌∙◌}
use borrow.Author.Rules.{rules}
use Rattle.joining.proofs.join.Goals as goal
use Rattle.joining.proofs.join.Goals.{Else-spoilt_plan, Else-spoilt_plan-2}

-- No test has found fault with the lists.
sound-first : (c : Else-spoilt_plan) → spoilt_list c.args.first ≡ false
sound-first c = sym c.spoilt_plan.ensures ∙ c.if-spoilt_plan.false

sound-second : (c : Else-spoilt_plan-2) → spoilt_list c.args.second ≡ false
sound-second c = sym c.spoilt_plan-2.ensures ∙ c.if-spoilt_plan-2.false

pub returns-then-spoilt_plan : goal.returns-then-spoilt_plan
returns-then-spoilt_plan c =
    let a = c.args in
    let all = promised a.first a.second _ (spoilt_first a.first a.second (sym c.spoilt_plan.ensures ∙ c.if-spoilt_plan.true)) in record { is = all.0; words = all.1.0; could_be_filed = all.1.1.0; same_in_force = all.1.1.1.0; same_decisions = all.1.1.1.1.0; same_ticks = all.1.1.1.1.1 }

pub returns-then-spoilt_plan-2 : goal.returns-then-spoilt_plan-2
returns-then-spoilt_plan-2 c =
    let a = c.args in
    let all = promised a.first a.second _ (spoilt_second a.first a.second (sound-first (goal.at.returns-then-spoilt_plan-2 c).Else-spoilt_plan) (sym c.spoilt_plan-2.ensures ∙ c.if-spoilt_plan-2.true)) in record { is = all.0; words = all.1.0; could_be_filed = all.1.1.0; same_in_force = all.1.1.1.0; same_decisions = all.1.1.1.1.0; same_ticks = all.1.1.1.1.1 }

pub keep-kept-requires : goal.keep-kept-requires
keep-kept-requires c =
    count_most c.args.first (sound-first (goal.at.keep-kept-requires c).Else-spoilt_plan)

pub overflow_add-kept : goal.overflow_add-kept
overflow_add-kept c =
    let a = c.args in
    let l = kept_count a.first a.second (sound-first (goal.at.overflow_add-kept c).Else-spoilt_plan) (sound-second (goal.at.overflow_add-kept c).Else-spoilt_plan-2) _ c.keep-kept.ensures in
    let m : a.second.count ≤ 16 = count_most a.second (sound-second (goal.at.overflow_add-kept c).Else-spoilt_plan-2) in
    search rules

pub returns-then-kept-second-gt-MOST_ENTRIES : goal.returns-then-kept-second-gt-MOST_ENTRIES
returns-then-kept-second-gt-MOST_ENTRIES c =
    let a = c.args in
    let all = promised a.first a.second _ (too_many a.first a.second (sound-first (goal.at.returns-then-kept-second-gt-MOST_ENTRIES c).Else-spoilt_plan) (sound-second (goal.at.returns-then-kept-second-gt-MOST_ENTRIES c).Else-spoilt_plan-2) _ c.keep-kept.ensures (search rules)) in record { is = all.0; words = all.1.0; could_be_filed = all.1.1.0; same_in_force = all.1.1.1.0; same_decisions = all.1.1.1.1.0; same_ticks = all.1.1.1.1.1 }

pub returns : goal.returns
returns c =
    let a = c.args in
    let all = promised a.first a.second _ (joins a.first a.second (sound-first (goal.at.returns c).Else-spoilt_plan) (sound-second (goal.at.returns c).Else-spoilt_plan-2) _ c.keep-kept.ensures (search rules) _ c.append.ensures) in record { is = all.0; words = all.1.0; could_be_filed = all.1.1.0; same_in_force = all.1.1.1.0; same_decisions = all.1.1.1.1.0; same_ticks = all.1.1.1.1.1 }
