-- The patterns above an infinity's are those of no number.
use mathlib.Core.Path.{sym, ◌∙◌}
use Rattle.speed.proofs.SpeedLaws.{nan_pattern, number_pattern, zero_by_zero}
use Rattle.speed.proofs.of_bits.Goals as goal

pub returns-then-n-gt-INFINITE : goal.returns-then-n-gt-INFINITE
returns-then-n-gt-INFINITE c = zero_by_zero ∙ sym (nan_pattern _ c.if-n-gt-INFINITE.true)

pub float_from_bits-result : goal.float_from_bits-result
float_from_bits-result c = number_pattern _ c.if-n-gt-INFINITE.false
