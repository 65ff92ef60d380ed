-- The array has room for the longest section.
use Rattle.site.proofs.Sizes.{no_longer}
use Rattle.site_reader.proofs.find_section.Goals as goal

pub read_section-requires : goal.read_section-requires
read_section-requires c = no_longer c.args.section
