-- The closure says of each row whether it names today.
use mathlib.Core.Path.{refl, ◌∙◌}
use borrow.Author.Rules.{rules}
use Rattle.loops.proofs.RangeLaws.{any_in_range}
use Rattle.calendar.proofs.RowLaws.{holiday_any}
use Rattle.calendar.proofs.is_holiday.Goals as goal

pub returns : goal.returns
returns c =
    any_in_range _ _ _ _ _ c.any.ensures.ran refl (λ x b q k. search rules)
    ∙ holiday_any c.args.today c.args.yesterday c.args.holidays.numbers.now c.args.holidays.count
