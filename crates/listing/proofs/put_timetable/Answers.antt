-- The heading, then all day types.
use Rattle.listing.specs.Timetable.{timetable_of}
use Rattle.text.proofs.PutsLaws.{puts_then}
use Rattle.listing.proofs.put_timetable.Goals as goal

pub returns : goal.returns
unfolding timetable_of
returns c = puts_then c.put.ensures c.put_days.ensures
