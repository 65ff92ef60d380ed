-- The two parts of a case lie within it.
use Rattle.std.proofs.Common.{sym, length-take-le, rules}
use Rattle.call_cases.proofs.answer.Goals as goal

pub slice_bounds-answer_case-end : goal.slice_bounds-answer_case-end
slice_bounds-answer_case-end c = sym (length-take-le _ _ (search rules))
