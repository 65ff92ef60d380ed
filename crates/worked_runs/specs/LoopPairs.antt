-- Document 02, A8: speeds from travel times, a level's threshold, readings, and what may be kept. One proof, `loop_pairs`, shows it all.
use Rattle.std.specs.Prelude.{◌≡◌, true, false, pos, negsuc, Some, None}
use Rattle.std.specs.Float.{nan, inf, fin, binary64}
use Rattle.std.specs.Float.Ieee.{of_bits}
use Rattle.speed.specs.Speed.{whole, speed_of, no_speed, least_speed, most_speed, speed_spoilt}
use Rattle.lane_speeds.specs.declared.reading.Reading.TheVariants.{Absent, Measured, Carried}
use Rattle.lane_speeds.specs.Speeds.{no_speeds, after_vehicle}
use Rattle.lane_speeds.specs.Reading.{reading_of}
use Rattle.levels.specs.Levels.{is_slow}

pub record LoopPairs : Type 0 where
  -- 6.1 m in 366 ms are 60 km/h, and in 1 ms 21960. Two vehicles in 183 and 549 ms, 732 in all, are 60 km/h together.
  pub sixty : speed_of 1 366 ≡ whole 60
  pub fastest : speed_of 1 1 ≡ most_speed
  pub together : speed_of 2 732 ≡ whole 60
  -- A threshold of 60 is met at 366 ms and a millisecond more, and not at a millisecond less, 60.16 km/h, which rounded down would meet it.
  pub at_threshold : is_slow 60 (Some (speed_of 1 366)) ≡ true
  pub slower : is_slow 60 (Some (speed_of 1 367)) ≡ true
  pub faster : is_slow 60 (Some (speed_of 1 365)) ≡ false
  -- It is not met where no speed is known, or where it is not in use.
  pub unknown : is_slow 60 None ≡ false
  pub not_in_use : is_slow 65535 (Some (speed_of 1 366)) ≡ false
  -- A reading: measured, whatever was before; carried over; absent.
  pub measured : reading_of 1 366 (whole 40) ≡ Measured (whole 60)
  pub carried : reading_of 0 0 (whole 40) ≡ Carried (whole 40)
  pub absent : reading_of 0 0 no_speed ≡ Absent
  -- The latest and the slowest speed of vehicles in 366, 549 and 183 ms: 60, 40 and 120 km/h. A time of 0 is no vehicle.
  pub first : after_vehicle no_speeds 366 ≡ record { latest = whole 60; slowest = whole 60 }
  pub second : after_vehicle (record { latest = whole 60; slowest = whole 60 }) 549 ≡ record { latest = whole 40; slowest = whole 40 }
  pub third : after_vehicle (record { latest = whole 40; slowest = whole 40 }) 183 ≡ record { latest = whole 120; slowest = whole 40 }
  pub no_vehicle : after_vehicle (record { latest = whole 120; slowest = whole 40 }) 0 ≡ record { latest = whole 120; slowest = whole 40 }
  -- 0, -0, 0.25 and 21960 may be kept.
  pub none_kept : speed_spoilt no_speed ≡ false
  pub minus_zero_kept : speed_spoilt (fin true 0 (pos 0)) ≡ false
  pub least_kept : speed_spoilt least_speed ≡ false
  pub most_kept : speed_spoilt most_speed ≡ false
  -- The doubles beside 0.25 and 21960, infinities, a negative one and no number may not.
  pub below_least : speed_spoilt (of_bits binary64 4598175219545276415) ≡ true
  pub above_most : speed_spoilt (of_bits binary64 4671765532792324097) ≡ true
  pub infinite : speed_spoilt (inf false) ≡ true
  pub minus_infinite : speed_spoilt (inf true) ≡ true
  pub negative : speed_spoilt (fin true 1 (negsuc 1)) ≡ true
  pub no_number : speed_spoilt nan ≡ true
