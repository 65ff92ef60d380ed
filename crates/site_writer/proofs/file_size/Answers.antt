-- The file's length by its four sections.
use Rattle.site.proofs.WriteLaws.{length_file}
use native.Mathlib.Omega.{arith}
use borrow.Author.Rules.{rules}
use Rattle.site_writer.proofs.file_size.Goals as goal

pub returns : goal.returns
returns c =
    omega (arith, length_file c.args.site (record { timings = search rules; plan = search rules; dates = search rules; tables = search rules }) c.requires, c.size-entries.ensures, c.size-holidays.ensures, c.size-levels.ensures)
