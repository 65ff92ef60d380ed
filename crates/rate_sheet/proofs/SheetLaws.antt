-- How long the sheet is.
use mathlib.Core.Path.{◌≡◌, refl}
use lib.ListN.{length}
use Rattle.text.specs.Decimal.{decimal}
use Rattle.phrases.specs.Phrases.{blank_and_seconds}
use Rattle.release.specs.Cycle.{to_nearest, cycle_ticks}
use Rattle.rate_sheet.specs.Sheet.{rate_line, sheet_text}

pub sheet_length : length sheet_text ≡ 28953
unfolding sheet_text rate_line blank_and_seconds decimal cycle_ticks to_nearest
sheet_length = refl
