-- Document 02, A10, worked out: "Level at 40 gives 29, 80 per mille downhill gives 35, uphill 25"; and the ends of both ranges.
use Rattle.std.specs.Prelude.{◌≡◌, pos, negsuc, neg_ℤ}
use Rattle.std.specs.Prelude.{Ok, Err}
use Rattle.refusals.specs.declared.Refusal.TheVariants.{BadApproach}
use Rattle.slope.specs.Slope.{yellow_at}

pub record Worked : Type 0 where
  pub level : yellow_at (pos 40) (pos 0) ≡ Ok 29
  pub downhill : yellow_at (pos 40) (neg_ℤ (pos 80)) ≡ Ok 35
  pub uphill : yellow_at (pos 40) (pos 80) ≡ Ok 25
  -- The longest, since it never grows with the grade and never falls with the speed: it is the most that a site file takes. The shortest.
  pub fast_downhill : yellow_at (pos 80) (neg_ℤ (pos 80)) ≡ Ok 60
  pub slow_uphill : yellow_at (pos 20) (pos 80) ≡ Ok 18
  -- Just outside.
  pub too_slow : yellow_at (pos 19) (pos 0) ≡ Err BadApproach
  pub too_fast : yellow_at (pos 81) (pos 0) ≡ Err BadApproach
  pub too_low : yellow_at (pos 40) (neg_ℤ (pos 81)) ≡ Err BadApproach
  pub too_high : yellow_at (pos 40) (pos 81) ≡ Err BadApproach
  -- The machine's least and greatest numbers, -2^63 and 2^63 - 1.
  pub least_speed_lem : yellow_at (negsuc 9223372036854775807) (pos 0) ≡ Err BadApproach
  pub greatest_speed : yellow_at (pos 9223372036854775807) (pos 0) ≡ Err BadApproach
  pub least_grade_lem : yellow_at (pos 40) (negsuc 9223372036854775807) ≡ Err BadApproach
  pub greatest_grade : yellow_at (pos 40) (pos 9223372036854775807) ≡ Err BadApproach
