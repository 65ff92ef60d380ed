-- Document 01, 'Worked runs': the runs marked *, with the cycles that document 02's A2 gives, the bytes that its A4 gives and the dates of
-- its A6, in the definitions that the calls' contracts cite. One proof, `starred`, shows them all.
use Rattle.std.specs.Prelude.{ℕ, ◌≡◌, true, false, [], ◌∷◌, ◌++◌, length, take, replicate, Ok}
use Rattle.refusals.specs.declared.Refusal.TheVariants.{ShortFile, LongFile}
use Rattle.site.specs.Reading.{refused, read_of}
use Rattle.site.specs.Writing.{bytes_of}
use Rattle.calendar.specs.declared.day.Date.{Date}
use Rattle.calendar.specs.Holidays.{day_type_of}
use Rattle.period.specs.declared.Counts.{Counts}
use Rattle.levels.specs.declared.Level.{Level}
use Rattle.levels.specs.Measures.{totals_of, measures_of}
use Rattle.levels.specs.Levels.{is_met}
use Rattle.release.specs.Cycle.{cycle_ticks}
use Rattle.worked_runs.specs.SiteA.{site_a, site_a_with_offset}
use Rattle.worked_runs.specs.Run.{metering600, answer_at, releases}

abbrev pub date : ℕ → ℕ → ℕ → Date
date year month day = record { year = year; month = month; day = day }

-- Three good lanes with these vehicles, and nothing else.
abbrev pub three_lanes : ℕ → ℕ → ℕ → Counts
three_lanes a b c = record {
  passages = replicate 4 0;
  greens = replicate 4 0;
  worked = 300 ∷ 300 ∷ 300 ∷ 0 ∷ 0 ∷ 0 ∷ [];
  vehicles = a ∷ b ∷ c ∷ 0 ∷ 0 ∷ 0 ∷ [];
  occupied = replicate 6 0;
  timed = replicate 6 0;
  millis = replicate 6 0;
}

-- A level with a flow threshold alone.
abbrev pub flow_level : ℕ → Level
flow_level flow = record { table = 1; flow = flow; occupancy = 65535; speed = 65535; rate = 600 }

pub record Starred : Type 0 where
  -- "Rate 600, V 1: cycle 60; .. 150 with V 3: 720." Document 02, A2: "700 with V 1 gives 51, 1600 gives 23."
  pub cycle_600 : cycle_ticks 1 600 ≡ 60
  pub cycle_700 : cycle_ticks 1 700 ≡ 51
  pub cycle_150 : cycle_ticks 3 150 ≡ 720
  pub cycle_1600 : cycle_ticks 1 1600 ≡ 23
  -- "28 November 2024 is fourth Thursday, 29 its day after. 26 May 2025 is final Monday."
  pub fourth_thursday : day_type_of (date 2024 11 28) (2 ∷ 11 ∷ 4 ∷ 4 ∷ 0 ∷ []) 1 ≡ 7
  pub day_after : day_type_of (date 2024 11 29) (3 ∷ 11 ∷ 4 ∷ 4 ∷ 0 ∷ []) 1 ≡ 7
  pub not_the_fourth_friday : day_type_of (date 2024 11 22) (3 ∷ 11 ∷ 4 ∷ 4 ∷ 0 ∷ []) 1 ≡ 5
  pub final_monday : day_type_of (date 2025 5 26) (2 ∷ 5 ∷ 5 ∷ 1 ∷ 0 ∷ []) 1 ≡ 7
  -- Document 02, A6: "With it set, 1 April 2024 is the holiday", and the day before an ordinary Sunday; so from 31 December 2023 to the new
  -- year, and from 29 February 2032.
  pub march_sunday : day_type_of (date 2024 3 31) (1 ∷ 3 ∷ 31 ∷ 0 ∷ 1 ∷ []) 1 ≡ 0
  pub april_holiday : day_type_of (date 2024 4 1) (1 ∷ 3 ∷ 31 ∷ 0 ∷ 1 ∷ []) 1 ≡ 7
  pub december_sunday : day_type_of (date 2023 12 31) (1 ∷ 12 ∷ 31 ∷ 0 ∷ 1 ∷ []) 1 ≡ 0
  pub january_holiday : day_type_of (date 2024 1 1) (1 ∷ 12 ∷ 31 ∷ 0 ∷ 1 ∷ []) 1 ≡ 7
  pub february_sunday : day_type_of (date 2032 2 29) (1 ∷ 2 ∷ 29 ∷ 0 ∷ 1 ∷ []) 1 ≡ 0
  pub march_holiday : day_type_of (date 2032 3 1) (1 ∷ 2 ∷ 29 ∷ 0 ∷ 1 ∷ []) 1 ≡ 7
  -- "31 vehicles on 3 lanes: flow 1240, below 1260; 32: 1280, met."
  pub flow_31 : (measures_of (totals_of (three_lanes 10 10 11) 3)).flow ≡ 1240
  pub below_1260 : is_met (flow_level 1260) (measures_of (totals_of (three_lanes 10 10 11) 3)) ≡ false
  pub flow_32 : (measures_of (totals_of (three_lanes 10 11 11) 3)).flow ≡ 1280
  pub met_1260 : is_met (flow_level 1260) (measures_of (totals_of (three_lanes 10 11 11) 3)) ≡ true
  -- "A file with empty lists is 38 bytes, 37 gives 1, 39 gives 7." Document 02, A4, has all three 4 higher: "The file with empty lists is
  -- now 42 bytes."
  pub empty_lists : length (bytes_of site_a) ≡ 42
  pub accepted : read_of (bytes_of site_a) ≡ Ok site_a
  pub one_byte_less : read_of (take 41 (bytes_of site_a)) ≡ refused ShortFile 41
  pub one_byte_more : read_of (bytes_of site_a ++ (0 ∷ [])) ≡ refused LongFile 42
  -- "Tick 50 dark, 51 green, 61 warning, 291 metering, 311 lane 1, 331 lane 2, 371 lane 1."
  pub dark_at_50 : (answer_at site_a metering600 50).shown.colours ≡ 0 ∷ 0 ∷ 0 ∷ 0 ∷ []
  pub green_at_51 : (answer_at site_a metering600 51).shown.colours ≡ 3 ∷ 3 ∷ 0 ∷ 0 ∷ []
  pub no_warning_at_60 : (answer_at site_a metering600 60).shown.sign ≡ 0
  pub warning_at_61 : (answer_at site_a metering600 61).shown.sign ≡ 1
  pub red_at_290 : (answer_at site_a metering600 290).state.group.interval ≡ 6
  pub metering_at_291 : (answer_at site_a metering600 291).state.group.interval ≡ 7
  pub lane_1_at_311 : (answer_at site_a metering600 311).shown.colours ≡ 3 ∷ 1 ∷ 0 ∷ 0 ∷ []
  pub released : releases site_a metering600 371 ≡ (311, 1) ∷ (331, 2) ∷ (371, 1) ∷ []
  -- "With fractional offset lane 2 begins at 341."
  pub released_with_offset : releases site_a_with_offset metering600 371 ≡ (311, 1) ∷ (341, 2) ∷ (371, 1) ∷ []
