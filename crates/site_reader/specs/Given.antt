-- "A refused file gives the number, its place and a site record of zeros."
use Rattle.std.specs.Prelude.{Result, Ok, Err}
use Rattle.ranges.specs.declared.Section.TheVariants.{Timings, Entries, Holidays, Levels}
use Rattle.site.specs.declared.Site.{Site}
use Rattle.site.specs.declared.Misread.{Misread}
use Rattle.site.specs.Reading.{none_of}

abbrev pub no_site : Site
no_site = record {
  timings = none_of Timings;
  entries = 0;
  plan = none_of Entries;
  holidays = 0;
  dates = none_of Holidays;
  levels = 0;
  tables = none_of Levels;
}

abbrev pub site_given : Result Site Misread → Site
site_given (Ok x) = x
site_given (Err misread) = no_site
