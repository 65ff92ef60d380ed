-- No site file is longer than the front less one byte.
use Rattle.site.proofs.Longest.{front_decides}
use Rattle.site_reader.proofs.front.Goals as goal

pub returns : goal.returns
returns c = front_decides
