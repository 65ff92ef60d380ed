-- Document 02, A2: the nearest cycle as it is seen in the lanes' greens, at two lanes with every timing at its least. One proof,
-- `in_greens`, shows it all.
use Rattle.std.specs.Prelude.{◌≡◌, true, false, [], ◌∷◌}
use Rattle.site.specs.Named.{timings_of}
use Rattle.waiting.specs.Bound.{waiting_bound}
use Rattle.tick.specs.Waiting.{begins_within}
use Rattle.worked_runs.specs.SiteA.{least_site}
use Rattle.worked_runs.specs.Run.{releases, waits_throughout}
use Rattle.worked_runs.specs.TwoLanes.{lane2_at, released_last, then_both}

pub record InGreens : Type 0 where
  -- 36000 ÷ 700 is 51.4: the greens begin 51 ticks apart.
  pub greens_at_700 : releases (least_site 0) (lane2_at 700) 153 ≡ (102, 2) ∷ (153, 2) ∷ []
  -- 36000 ÷ 960 is 37.5, and the half goes up: 38.
  pub greens_at_960 : releases (least_site 0) (lane2_at 960) 140 ≡ (102, 2) ∷ (140, 2) ∷ []
  -- "The waiting bound uses the new cycle": at 700, with C 51, lane 2 is released at tick 163, the run's 61st and the bound's last.
  pub waiting_at_700 : waits_throughout 2 51 (released_last 700 0) (then_both 700 0 50 11) ≡ true
  pub bound_at_51 : waiting_bound (timings_of (least_site 0)) 51 ≡ 61
  pub in_time : begins_within 2 61 (released_last 700 0) (then_both 700 0 50 11) ≡ true
  pub no_tick_to_spare : begins_within 2 60 (released_last 700 0) (then_both 700 0 50 11) ≡ false
