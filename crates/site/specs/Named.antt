-- Document 01, 'The site file', with document 02's A4: a site's timings by name.
use Rattle.std.specs.Prelude.{ℕ, get_or}
use Rattle.timings.specs.declared.Timings.{Timings}
use Rattle.timings.specs.declared.Shape.{Shape}
use Rattle.site.specs.declared.Site.{Site}

-- In the file's order: lanes n, service mode, vehicles per green V, minimum and maximum green, yellow, minimum red, startup warning,
-- startup green, startup yellow, startup red, shutdown red, maximum and minimum pre-metering green, mainline lanes m, priority lane, bypass
-- timeout.
unfoldable pub timings_of : Site → Timings
timings_of x = record {
  lanes = get_or x.timings 0 0;
  mode = get_or x.timings 1 0;
  vehicles = get_or x.timings 2 0;
  mingreen = get_or x.timings 3 0;
  maxgreen = get_or x.timings 4 0;
  yellow = get_or x.timings 5 0;
  minred = get_or x.timings 6 0;
  warning = get_or x.timings 7 0;
  startgreen = get_or x.timings 8 0;
  startyellow = get_or x.timings 9 0;
  startred = get_or x.timings 10 0;
  shutdown = get_or x.timings 11 0;
  maxpregreen = get_or x.timings 12 0;
  minpregreen = get_or x.timings 13 0;
  mainline = get_or x.timings 14 0;
  priority = get_or x.timings 15 0;
  timeout = get_or x.timings 16 0;
}

-- A site's n metered and m mainline lanes.
abbrev pub metered_lanes : Site → ℕ
metered_lanes x = (timings_of x).lanes

abbrev pub mainline_lanes : Site → ℕ
mainline_lanes x = (timings_of x).mainline

-- What a state must fit.
abbrev pub shape_of : Site → Shape
shape_of x = record { lanes = metered_lanes x; mainline = mainline_lanes x; priority = (timings_of x).priority }
